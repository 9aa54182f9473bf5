-- Which rules are asked of an action, which roles may take it, and what it names.
use Rattle.std.specs.Prelude.{ℕ, Bool, true, false, List, [], ◌∷◌, length, Option, Some, None, ◌||◌}
use Rattle.hall_policy.specs.declared.record.Roles.{Roles}
use Rattle.hall_policy.specs.declared.record.PuzzleKey.{PuzzleKey}
use Rattle.hall_policy.specs.declared.request.Action.{Action}
use Rattle.hall_policy.specs.declared.request.Action.TheVariants.{Import, PutPuzzle, ReadPuzzle, ListPuzzles, Certify}
use Rattle.hall_policy.specs.declared.request.Action.TheVariants.{PutRound, Release, ListRounds, ReadRound, Submit}
use Rattle.hall_policy.specs.declared.request.Action.TheVariants.{Answers, Solutions, Protest, Protests}
use Rattle.hall_policy.specs.declared.request.Action.TheVariants.{RuleProtest, Publish, Table}
use Rattle.hall_policy.specs.declared.rule.Rule as rule
use Rattle.hall_policy.specs.declared.rule.Rule.TheVariants.{UnknownKey, NoRole, OtherAuthor, Missing, OwnPuzzle}
use Rattle.hall_policy.specs.declared.rule.Rule.TheVariants.{TokenTaken, NotStarted, Ended, NotEnded, Closed}
use Rattle.hall_policy.specs.declared.rule.Rule.TheVariants.{InReleasedRound, NotCertified, NoDraft, Started}
use Rattle.hall_policy.specs.declared.rule.Rule.TheVariants.{Published, OpenProtest, Involved, RuledOtherwise}
use Rattle.hall_policy.specs.declared.rule.Rule.TheVariants.{LimitReached, ListConflict}

-- the rules, numbered from 1
abbrev pub number_of : rule.Rule → ℕ
number_of UnknownKey = 1
number_of NoRole = 2
number_of OtherAuthor = 3
number_of Missing = 4
number_of OwnPuzzle = 5
number_of TokenTaken = 6
number_of NotStarted = 7
number_of Ended = 8
number_of NotEnded = 9
number_of Closed = 10
number_of InReleasedRound = 11
number_of NotCertified = 12
number_of NoDraft = 13
number_of Started = 14
number_of Published = 15
number_of OpenProtest = 16
number_of Involved = 17
number_of RuledOtherwise = 18
number_of LimitReached = 19
number_of ListConflict = 20

-- all of them, in that order
abbrev pub the_rules : List rule.Rule
the_rules =
    UnknownKey ∷ NoRole ∷ OtherAuthor ∷ Missing ∷ OwnPuzzle ∷ TokenTaken ∷ NotStarted ∷ Ended ∷ NotEnded ∷ Closed
    ∷ InReleasedRound ∷ NotCertified ∷ NoDraft ∷ Started ∷ Published ∷ OpenProtest ∷ Involved ∷ RuledOtherwise
    ∷ LimitReached ∷ ListConflict ∷ []

-- the number of the last
abbrev pub last_rule : ℕ
last_rule = length the_rules

-- the rules asked of an action, by number
abbrev pub rules_asked : Action → List rule.Rule
rules_asked (Import people) = UnknownKey ∷ NoRole ∷ ListConflict ∷ []
rules_asked (PutPuzzle key puzzle) = UnknownKey ∷ NoRole ∷ OtherAuthor ∷ Missing ∷ InReleasedRound ∷ LimitReached ∷ []
rules_asked (ReadPuzzle key) = UnknownKey ∷ NoRole ∷ OtherAuthor ∷ Missing ∷ []
rules_asked ListPuzzles = UnknownKey ∷ NoRole ∷ []
rules_asked (Certify key budget) = UnknownKey ∷ NoRole ∷ OtherAuthor ∷ Missing ∷ []
rules_asked (PutRound round sheet) = UnknownKey ∷ NoRole ∷ Missing ∷ NoDraft ∷ []
rules_asked (Release round) = UnknownKey ∷ NoRole ∷ Missing ∷ InReleasedRound ∷ NotCertified ∷ NoDraft ∷ Started ∷ []
rules_asked ListRounds = UnknownKey ∷ []
rules_asked (ReadRound round) = UnknownKey ∷ NoRole ∷ Missing ∷ OwnPuzzle ∷ NotStarted ∷ []
rules_asked (Submit round number token answer) =
    UnknownKey ∷ NoRole ∷ Missing ∷ OwnPuzzle ∷ TokenTaken ∷ NotStarted ∷ Ended ∷ Published ∷ LimitReached ∷ []
rules_asked (Answers round) = UnknownKey ∷ NoRole ∷ Missing ∷ []
rules_asked (Solutions round) = UnknownKey ∷ NoRole ∷ Missing ∷ NotEnded ∷ []
rules_asked (Protest round token number text) =
    UnknownKey ∷ NoRole ∷ Missing ∷ OwnPuzzle ∷ TokenTaken ∷ NotEnded ∷ Closed ∷ Published ∷ LimitReached ∷ []
rules_asked (Protests round) = UnknownKey ∷ NoRole ∷ Missing ∷ []
rules_asked (RuleProtest round entrant token ruling) = UnknownKey ∷ NoRole ∷ Missing ∷ Involved ∷ RuledOtherwise ∷ []
rules_asked (Publish round) = UnknownKey ∷ NoRole ∷ Missing ∷ NotEnded ∷ Published ∷ OpenProtest ∷ []
rules_asked (Table round) = Missing ∷ Published ∷ []

-- whether a role of these allows the action
abbrev pub may : Roles → Action → Bool
may roles (Import people) = roles.director
may roles (PutPuzzle key puzzle) = roles.author || roles.director
may roles (ReadPuzzle key) = roles.author || roles.director
may roles ListPuzzles = roles.author || roles.director
may roles (Certify key budget) = roles.author || roles.director
may roles (PutRound round sheet) = roles.director
may roles (Release round) = roles.director
may roles ListRounds = true
may roles (ReadRound round) = roles.entrant || (roles.referee || roles.director)
may roles (Submit round number token answer) = roles.entrant
may roles (Answers round) = roles.entrant || (roles.referee || roles.director)
may roles (Solutions round) = roles.entrant || (roles.referee || roles.director)
may roles (Protest round token number text) = roles.entrant
may roles (Protests round) = roles.entrant || (roles.referee || roles.director)
may roles (RuleProtest round entrant token ruling) = roles.referee
may roles (Publish round) = roles.director
may roles (Table round) = true

-- the puzzle that an action names by author and label
abbrev pub puzzle_named : Action → Option PuzzleKey
puzzle_named (PutPuzzle key puzzle) = Some key
puzzle_named (ReadPuzzle key) = Some key
puzzle_named (Certify key budget) = Some key
puzzle_named _ = None

-- the round that an action names
abbrev pub round_named : Action → Option (List ℕ)
round_named (PutRound round sheet) = Some round
round_named (Release round) = Some round
round_named (ReadRound round) = Some round
round_named (Submit round number token answer) = Some round
round_named (Answers round) = Some round
round_named (Solutions round) = Some round
round_named (Protest round token number text) = Some round
round_named (Protests round) = Some round
round_named (RuleProtest round entrant token ruling) = Some round
round_named (Publish round) = Some round
round_named (Table round) = Some round
round_named _ = None

-- the actions that find a draft, where a director makes them
abbrev pub finds_drafts : Action → Bool
finds_drafts (PutRound round sheet) = true
finds_drafts (Release round) = true
finds_drafts ListRounds = true
finds_drafts (ReadRound round) = true
finds_drafts _ = false
