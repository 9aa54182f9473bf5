-- What follows, of the facts alone, where a rule passes, where a request repeats another, and from a decision.
use Rattle.std.specs.Prelude.{◌≡◌, ◌⊎◌, ◌<◌, ◌||◌, ◌&&◌, ℕ, false, List, Some, None, IsTrue, IsSome, Contains}
use Rattle.hall_policy.specs.Limits.{most_answers, most_protests, most_puzzles}
use Rattle.hall_policy.specs.World.{entry_at}
use Rattle.hall_policy.specs.Actions.{number_of, rules_asked, may, finds_drafts, puzzle_named}
use Rattle.hall_policy.specs.Rules.{TheCaller, LacksRole, is_director}
use Rattle.hall_policy.specs.Facts.{HasEntryBy, RoundHasTester, ReadsFoundAsTester}
use Rattle.hall_policy.specs.declared.record.Person.{Person}
use Rattle.hall_policy.specs.declared.record.PuzzleKey.{PuzzleKey}
use Rattle.hall_policy.specs.declared.record.PuzzleRow.{PuzzleRow}
use Rattle.hall_policy.specs.declared.record.Entry.{Entry}
use Rattle.hall_policy.specs.declared.record.RoundRow.{RoundRow}
use Rattle.hall_policy.specs.declared.record.AnswerRow.{AnswerRow}
use Rattle.hall_policy.specs.declared.record.ProtestRow.{ProtestRow}
use Rattle.hall_policy.specs.declared.request.Action.{Action}
use Rattle.hall_policy.specs.declared.request.Action.TheVariants.{Import, PutPuzzle, ReadPuzzle, ListPuzzles, Certify}
use Rattle.hall_policy.specs.declared.request.Action.TheVariants.{PutRound, Release, ListRounds, ReadRound, Submit}
use Rattle.hall_policy.specs.declared.request.Action.TheVariants.{Answers, Solutions, Protest, Protests}
use Rattle.hall_policy.specs.declared.request.Action.TheVariants.{RuleProtest, Publish, Table}
use Rattle.hall_policy.specs.declared.rule.Rule as rule
use Rattle.hall_policy.specs.declared.rule.Rule.TheVariants.{UnknownKey, NoRole, OtherAuthor, Missing, OwnPuzzle}
use Rattle.hall_policy.specs.declared.rule.Rule.TheVariants.{TokenTaken, InReleasedRound, NotCertified, NoDraft}
use Rattle.hall_policy.specs.declared.rule.Rule.TheVariants.{Published, OpenProtest, Involved, RuledOtherwise}
use Rattle.hall_policy.specs.declared.rule.Rule.TheVariants.{LimitReached, ListConflict}
use Rattle.hall_policy.specs.declared.rule.Decision.{Decision}
use Rattle.hall_policy.specs.declared.rule.Decision.TheVariants.{Allow, Repeat, Deny}
use Rattle.hall_policy.specs.declared.facts.Facts.{Facts}

-- The caller is there and has a role that may. Table is anyone's.
abbrev pub CallerMay : Facts → Action → Type 0
CallerMay facts (Table round) = Unit {0}
CallerMay facts action = TheCaller facts.caller (λ person. IsTrue (may person.roles action))

-- The caller is a director, or author of the puzzle that is named.
abbrev pub NamesOwnPuzzle : Facts → Action → Type 0
NamesOwnPuzzle facts action =
    (person : Person) (key : PuzzleKey) → facts.caller ≡ Some person → puzzle_named action ≡ Some key →
    IsTrue person.roles.director ⊎ (key.author ≡ person.name)

-- the puzzle is there
abbrev pub PuzzleIsThere : Facts → Type 0
PuzzleIsThere facts = (row : PuzzleRow) × (facts.puzzle ≡ Some row)

-- the round is there, and is no draft unless the action finds drafts and a director makes it
pub record RoundIsThere (facts : Facts) (action : Action) : Type 0 where
  pub row : RoundRow
  pub found : facts.round ≡ Some row
  pub shown : IsTrue (row.round.released || (is_director facts.caller && finds_drafts action))

-- the round has an entry at the number
abbrev pub EntryIsThere : RoundRow → ℕ → Type 0
EntryIsThere row number = (entry : Entry) × (entry_at row.puzzles number ≡ Some entry)

-- the round is there, and has an entry at the number
pub record PlaceIsThere (facts : Facts) (action : Action) (number : ℕ) : Type 0 where
  pub round : RoundIsThere facts action
  pub entry : EntryIsThere round.row number

-- the round and the protest are there
pub record ProtestIsThere (facts : Facts) (action : Action) : Type 0 where
  pub round : RoundIsThere facts action
  pub row : ProtestRow
  pub found : facts.protest ≡ Some row

-- The object is there: the author, the puzzle, each puzzle and tester of the sheet, the round, the puzzle's number,
-- the protest.
abbrev pub ObjectIsThere : Facts → Action → Type 0
ObjectIsThere facts (Import people) = Unit {0}
ObjectIsThere facts (PutPuzzle key puzzle) = IsTrue facts.author_is_there
ObjectIsThere facts (ReadPuzzle key) = PuzzleIsThere facts
ObjectIsThere facts ListPuzzles = Unit {0}
ObjectIsThere facts (Certify key budget) = PuzzleIsThere facts
ObjectIsThere facts (PutRound round sheet) = facts.sheet_lacks ≡ false
ObjectIsThere facts (Release round) = RoundIsThere facts (Release round)
ObjectIsThere facts ListRounds = Unit {0}
ObjectIsThere facts (ReadRound round) = RoundIsThere facts (ReadRound round)
ObjectIsThere facts (Submit round number token answer) = PlaceIsThere facts (Submit round number token answer) number
ObjectIsThere facts (Answers round) = RoundIsThere facts (Answers round)
ObjectIsThere facts (Solutions round) = RoundIsThere facts (Solutions round)
ObjectIsThere facts (Protest round token number text) = PlaceIsThere facts (Protest round token number text) number
ObjectIsThere facts (Protests round) = RoundIsThere facts (Protests round)
ObjectIsThere facts (RuleProtest round entrant token ruling) =
    ProtestIsThere facts (RuleProtest round entrant token ruling)
ObjectIsThere facts (Publish round) = RoundIsThere facts (Publish round)
ObjectIsThere facts (Table round) = RoundIsThere facts (Table round)

-- the round that was found has no puzzle by the author
abbrev pub RoundHasNoneBy : Facts → List ℕ → Type 0
RoundHasNoneBy facts author = (row : RoundRow) → facts.round ≡ Some row → ¬ (HasEntryBy row.puzzles author)

-- the person has no hand in the round that was found: is neither author of a puzzle nor a tester
abbrev pub HasNoHandIn : Facts → List ℕ → Type 0
HasNoHandIn facts name = RoundHasNoneBy facts name × ¬ (RoundHasTester facts name)

-- the caller is no entrant, or has no hand in the round that was found, or is a tester who reads it
abbrev pub RoundIsByOthers : Facts → Action → Type 0
RoundIsByOthers facts action =
    (person : Person) → facts.caller ≡ Some person → IsTrue person.roles.entrant →
    HasNoHandIn facts person.name ⊎ ReadsFoundAsTester facts action

-- What an entrant answers or protests about is by others, and tested by others; so is what an entrant reads who is no
-- tester of it.
abbrev pub IsByOthers : Facts → Action → Type 0
IsByOthers facts (ReadRound round) = RoundIsByOthers facts (ReadRound round)
IsByOthers facts (Submit round number token answer) = RoundIsByOthers facts (Submit round number token answer)
IsByOthers facts (Protest round token number text) = RoundIsByOthers facts (Protest round token number text)
IsByOthers facts _ = Unit {0}

-- The puzzle that is put stands in no released round; a puzzle of the round that is released stands in no other one.
abbrev pub StandsInNoReleased : Facts → Action → Type 0
StandsInNoReleased facts (PutPuzzle key puzzle) = facts.in_released ≡ false
StandsInNoReleased facts (Release round) = facts.in_released ≡ false
StandsInNoReleased facts _ = Unit {0}

-- Each puzzle of the round that is released is certified.
abbrev pub AreCertified : Facts → Action → Type 0
AreCertified facts (Release round) = facts.uncertified ≡ false
AreCertified facts _ = Unit {0}

-- the round that was found is a draft
abbrev pub RoundIsDraft : Facts → Type 0
RoundIsDraft facts = (row : RoundRow) → facts.round ≡ Some row → row.round.released ≡ false

-- What is put or released is a draft.
abbrev pub IsStillDraft : Facts → Action → Type 0
IsStillDraft facts (PutRound round sheet) = RoundIsDraft facts
IsStillDraft facts (Release round) = RoundIsDraft facts
IsStillDraft facts _ = Unit {0}

-- the round that was found isn't published
abbrev pub RoundIsUnpublished : Facts → Type 0
RoundIsUnpublished facts = (row : RoundRow) → facts.round ≡ Some row → row.round.published ≡ false

-- the round that was found is published
abbrev pub RoundIsPublished : Facts → Type 0
RoundIsPublished facts = (row : RoundRow) → facts.round ≡ Some row → IsTrue row.round.published

-- what rule 15 implies that passes: published for Table, and else not published
abbrev pub PublishedPasses : Facts → Action → Type 0
PublishedPasses facts (Table round) = RoundIsPublished facts
PublishedPasses facts _ = RoundIsUnpublished facts

-- What is answered, protested about or published isn't published yet, and what a table is read of is.
abbrev pub IsPublishedAsAsked : Facts → Action → Type 0
IsPublishedAsAsked facts (Submit round number token answer) = RoundIsUnpublished facts
IsPublishedAsAsked facts (Protest round token number text) = RoundIsUnpublished facts
IsPublishedAsAsked facts (Publish round) = RoundIsUnpublished facts
IsPublishedAsAsked facts (Table round) = RoundIsPublished facts
IsPublishedAsAsked facts _ = Unit {0}

-- No protest of the round that is published is open.
abbrev pub AreProtestsRuled : Facts → Action → Type 0
AreProtestsRuled facts (Publish round) = facts.open_protest ≡ false
AreProtestsRuled facts _ = Unit {0}

-- Who rules has no answer in the round, and didn't make the protest.
abbrev pub IsUninvolved : Facts → Action → Type 0
IsUninvolved facts (RuleProtest round entrant token ruling) = facts.involved ≡ false
IsUninvolved facts _ = Unit {0}

-- The list of people contradicts nothing that is known.
abbrev pub HasNoConflict : Facts → Action → Type 0
HasNoConflict facts (Import people) = facts.conflict ≡ false
HasNoConflict facts _ = Unit {0}

-- the protest that was found is open
abbrev pub ProtestIsOpen : Facts → Type 0
ProtestIsOpen facts = (row : ProtestRow) → facts.protest ≡ Some row → row.ruling ≡ None

-- What is handed in or protested is new.
abbrev pub TokenIsNew : Facts → Action → Type 0
TokenIsNew facts (Submit round number token answer) = facts.answer ≡ None
TokenIsNew facts (Protest round token number text) = facts.protest ≡ None
TokenIsNew facts _ = Unit {0}

-- What is ruled is open.
abbrev pub RulingIsNew : Facts → Action → Type 0
RulingIsNew facts (RuleProtest round entrant token ruling) = ProtestIsOpen facts
RulingIsNew facts _ = Unit {0}

-- There are fewer than the limit.
abbrev pub IsBelowLimit : Facts → Action → Type 0
IsBelowLimit facts (Submit round number token answer) = facts.count < most_answers
IsBelowLimit facts (Protest round token number text) = facts.count < most_protests
IsBelowLimit facts (PutPuzzle key puzzle) = facts.puzzle ≡ None → facts.count < most_puzzles
IsBelowLimit facts _ = Unit {0}

-- The same was handed in, protested or ruled before.
abbrev pub IsSame : Facts → Action → Type 0
IsSame facts (Submit round number token answer) = (row : AnswerRow) × (facts.answer ≡ Some row) × (row.answer ≡ answer)
IsSame facts (Protest round token number text) =
    (row : ProtestRow) × (facts.protest ≡ Some row) × (row.number ≡ number) × (row.text ≡ text)
IsSame facts (RuleProtest round entrant token ruling) =
    (row : ProtestRow) × (facts.protest ≡ Some row) × (row.ruling ≡ Some ruling)
IsSame facts _ = ⊥

-- what an allowed request has: all that the rules without a moment imply of the facts
pub record IsAllowable (facts : Facts) (action : Action) : Type 0 where
  pub caller : CallerMay facts action
  pub object : ObjectIsThere facts action
  pub draft : IsStillDraft facts action
  pub token : TokenIsNew facts action
  pub ruling : RulingIsNew facts action
  pub below_limit : IsBelowLimit facts action
  pub author : NamesOwnPuzzle facts action
  pub by_others : IsByOthers facts action
  pub no_other_round : StandsInNoReleased facts action
  pub certified : AreCertified facts action
  pub published : IsPublishedAsAsked facts action
  pub protests_ruled : AreProtestsRuled facts action
  pub uninvolved : IsUninvolved facts action
  pub no_conflict : HasNoConflict facts action

-- what a request has that repeats another: all that its first reply is read from
pub record IsRepetition (facts : Facts) (action : Action) : Type 0 where
  pub caller : CallerMay facts action
  pub object : ObjectIsThere facts action
  pub same : IsSame facts action

-- what a decision implies; a denial has the number of a rule that is asked
abbrev pub Implies : Decision → Facts → Action → Type 0
Implies Allow facts action = IsAllowable facts action
Implies Repeat facts action = IsRepetition facts action
Implies (Deny k) facts action = (rule : rule.Rule) × Contains (rules_asked action) rule × (number_of rule ≡ k)

-- what a rule implies that passes
abbrev pub PassImplies : rule.Rule → Facts → Action → Type 0
PassImplies UnknownKey facts action = IsSome facts.caller
PassImplies NoRole facts action = ¬ (LacksRole facts.caller action)
PassImplies OtherAuthor facts action = NamesOwnPuzzle facts action
PassImplies Missing facts action = ObjectIsThere facts action
PassImplies OwnPuzzle facts action = RoundIsByOthers facts action
PassImplies TokenTaken facts action = IsSome facts.caller → TokenIsNew facts action
PassImplies InReleasedRound facts action = facts.in_released ≡ false
PassImplies NotCertified facts action = facts.uncertified ≡ false
PassImplies NoDraft facts action = RoundIsDraft facts
PassImplies Published facts action = PublishedPasses facts action
PassImplies OpenProtest facts action = facts.open_protest ≡ false
PassImplies Involved facts action = facts.involved ≡ false
PassImplies RuledOtherwise facts action = RulingIsNew facts action
PassImplies LimitReached facts action = IsSome facts.caller → IsBelowLimit facts action
PassImplies ListConflict facts action = facts.conflict ≡ false
PassImplies _ facts action = Unit {0}
