-- Which rule decides.
use Rattle.std.specs.Prelude.{◌≡◌, ◌<◌, ℕ, suc, Contains, Option}
use Rattle.hall_policy.specs.World.{World}
use Rattle.hall_policy.specs.Actions.{number_of, last_rule, rules_asked}
use Rattle.hall_policy.specs.Rules.{KeyIsUnknown, LacksRole, NamesOtherAuthor, IsMissing, IsOwnPuzzle, TokenStands}
use Rattle.hall_policy.specs.Rules.{SameContent, IsBeforeStart, IsAfterEnd, IsBeforeEnd, IsAfterClose}
use Rattle.hall_policy.specs.Rules.{IsInReleasedRound, IsUncertified, IsNoDraft, IsAfterStart, IsPublished}
use Rattle.hall_policy.specs.Rules.{HasOpenProtest, IsInvolved, IsRuled, SameRuling, IsAtLimit, HasConflict}
use Rattle.hall_policy.specs.declared.record.Person.{Person}
use Rattle.hall_policy.specs.declared.request.Action.{Action}
use Rattle.hall_policy.specs.declared.rule.Rule.{Rule}
use Rattle.hall_policy.specs.declared.rule.Rule.TheVariants.{UnknownKey, NoRole, OtherAuthor, Missing, OwnPuzzle}
use Rattle.hall_policy.specs.declared.rule.Rule.TheVariants.{TokenTaken, NotStarted, Ended, NotEnded, Closed}
use Rattle.hall_policy.specs.declared.rule.Rule.TheVariants.{InReleasedRound, NotCertified, NoDraft, Started}
use Rattle.hall_policy.specs.declared.rule.Rule.TheVariants.{Published, OpenProtest, Involved, RuledOtherwise}
use Rattle.hall_policy.specs.declared.rule.Rule.TheVariants.{LimitReached, ListConflict}
use Rattle.hall_policy.specs.declared.rule.Decision.{Decision}
use Rattle.hall_policy.specs.declared.rule.Decision.TheVariants.{Allow, Repeat, Deny}

-- what the rule forbids: the sentence of its number
abbrev pub Sentence : Rule → World → Option Person → Action → ℕ → Type 0
Sentence UnknownKey world caller action t = KeyIsUnknown caller
Sentence NoRole world caller action t = LacksRole caller action
Sentence OtherAuthor world caller action t = NamesOtherAuthor caller action
Sentence Missing world caller action t = IsMissing world caller action
Sentence OwnPuzzle world caller action t = IsOwnPuzzle world caller action
Sentence TokenTaken world caller action t = TokenStands world caller action × ¬ (SameContent world caller action)
Sentence NotStarted world caller action t = IsBeforeStart world caller action t
Sentence Ended world caller action t = IsAfterEnd world action t
Sentence NotEnded world caller action t = IsBeforeEnd world action t
Sentence Closed world caller action t = IsAfterClose world action t
Sentence InReleasedRound world caller action t = IsInReleasedRound world action
Sentence NotCertified world caller action t = IsUncertified world action
Sentence NoDraft world caller action t = IsNoDraft world action
Sentence Started world caller action t = IsAfterStart world action t
Sentence Published world caller action t = IsPublished world action
Sentence OpenProtest world caller action t = HasOpenProtest world action
Sentence Involved world caller action t = IsInvolved world caller action
Sentence RuledOtherwise world caller action t = IsRuled world action × ¬ (SameRuling world action)
Sentence LimitReached world caller action t = IsAtLimit world caller action
Sentence ListConflict world caller action t = HasConflict world action

-- the rule is asked, and its sentence is true
abbrev pub Forbids : Rule → World → Option Person → Action → ℕ → Type 0
Forbids rule world caller action t = Contains (rules_asked action) rule × Sentence rule world caller action t

-- what the rule asks about was done before, with the same content
abbrev pub SameBefore : Rule → World → Option Person → Action → Type 0
SameBefore TokenTaken world caller action = SameContent world caller action
SameBefore RuledOtherwise world caller action = SameRuling world action
SameBefore _ world caller action = ⊥

-- the rule is asked, and finds that the same was done before
abbrev pub Repeated : Rule → World → Option Person → Action → Type 0
Repeated rule world caller action = Contains (rules_asked action) rule × SameBefore rule world caller action

-- no rule with a number below n forbids or repeats
abbrev pub NoneBelow : ℕ → World → Option Person → Action → ℕ → Type 0
NoneBelow n world caller action t =
    (rule : Rule) → number_of rule < n → ¬ (Forbids rule world caller action t) × ¬ (Repeated rule world caller action)

-- no rule forbids or repeats
abbrev pub NoneDecides : World → Option Person → Action → ℕ → Type 0
NoneDecides world caller action t = NoneBelow (suc last_rule) world caller action t

-- the first rule that forbids: of the rules asked, the least that forbids or repeats decides;
-- where there is none, the action is allowed
abbrev pub First : World → Option Person → Action → ℕ → Decision → Type 0
First world caller action t (Deny k) =
    (rule : Rule) × (number_of rule ≡ k) × Forbids rule world caller action t × NoneBelow k world caller action t
First world caller action t Repeat =
    (rule : Rule) × Repeated rule world caller action × NoneBelow (number_of rule) world caller action t
First world caller action t Allow = NoneDecides world caller action t
