-- What the decisions imply, from what the rules imply that pass.
use Rattle.std.proofs.Common.{◌≡◌, ℕ, ◌<◌, Bool, true, false, IsTrue, IsSome, Option, Some, None, List, slice_get, refl}
use Rattle.std.proofs.Common.{sym, subst, lit<}
use Rattle.hall_policy.specs.Actions.{number_of, rules_asked, may}
use Rattle.hall_policy.specs.Rules.{TheCaller, LacksRole}
use Rattle.hall_policy.specs.Facts.{deciding}
use Rattle.hall_policy.specs.Implies.{CallerMay, NamesOwnPuzzle, RoundIsThere, EntryIsThere, ObjectIsThere, IsByOthers}
use Rattle.hall_policy.specs.Implies.{StandsInNoReleased, AreCertified, IsStillDraft, IsPublishedAsAsked}
use Rattle.hall_policy.specs.Implies.{AreProtestsRuled, IsUninvolved, HasNoConflict, TokenIsNew, RulingIsNew}
use Rattle.hall_policy.specs.Implies.{IsBelowLimit, IsSame, IsAllowable, IsRepetition, PassImplies}
use Rattle.hall_policy.specs.declared.record.Person.{Person}
use Rattle.hall_policy.specs.declared.rule.Rule.{Rule}
use Rattle.hall_policy.specs.declared.rule.Rule.TheVariants.{UnknownKey, NoRole, OtherAuthor, Missing, OwnPuzzle}
use Rattle.hall_policy.specs.declared.rule.Rule.TheVariants.{TokenTaken, InReleasedRound, NotCertified, NoDraft}
use Rattle.hall_policy.specs.declared.rule.Rule.TheVariants.{Published, OpenProtest, Involved, RuledOtherwise}
use Rattle.hall_policy.specs.declared.rule.Rule.TheVariants.{LimitReached, ListConflict}
use Rattle.hall_policy.specs.declared.rule.Decision.TheVariants.{Repeat}
use Rattle.hall_policy.specs.declared.request.Action.{Action}
use Rattle.hall_policy.specs.declared.request.Action.TheVariants as action
use Rattle.hall_policy.specs.declared.facts.Facts.{Facts}

not_false : (b : Bool) → ¬ (b ≡ false) → IsTrue b
not_false true n = refl
not_false false n = absurd (n refl)

may_from : (caller : Option Person) (action : Action) → IsSome caller → ¬ (LacksRole caller action)
    → TheCaller caller (λ person. IsTrue (may person.roles action))
may_from (Some person) action there may = (person, refl, not_false _ (λ lacks. may (person, refl, lacks)))
may_from None action there may = cc

anyone : (caller : Option Person) → IsSome caller → TheCaller caller (λ person. IsTrue true)
anyone (Some person) there = (person, refl, refl)
anyone None there = cc

-- the rules that are asked pass
abbrev pub AllPass : Facts → Action → Type 0
AllPass facts action = (k : ℕ) (r : Rule) → slice_get (rules_asked action) k ≡ Some r → PassImplies r facts action

caller_may : (facts : Facts) (action : Action) → AllPass facts action → CallerMay facts action
caller_may facts (action.Import people) h = may_from facts.caller (action.Import people) (h 0 UnknownKey refl)
    (h 1 NoRole refl)
caller_may facts (action.PutPuzzle key puzzle) h = may_from facts.caller (action.PutPuzzle key puzzle)
    (h 0 UnknownKey refl) (h 1 NoRole refl)
caller_may facts (action.ReadPuzzle key) h = may_from facts.caller (action.ReadPuzzle key) (h 0 UnknownKey refl)
    (h 1 NoRole refl)
caller_may facts action.ListPuzzles h = may_from facts.caller action.ListPuzzles (h 0 UnknownKey refl) (h 1 NoRole refl)
caller_may facts (action.Certify key budget) h = may_from facts.caller (action.Certify key budget) (h 0 UnknownKey refl)
    (h 1 NoRole refl)
caller_may facts (action.PutRound round sheet) h = may_from facts.caller (action.PutRound round sheet)
    (h 0 UnknownKey refl) (h 1 NoRole refl)
caller_may facts (action.Release round) h = may_from facts.caller (action.Release round) (h 0 UnknownKey refl)
    (h 1 NoRole refl)
caller_may facts action.ListRounds h = anyone facts.caller (h 0 UnknownKey refl)
caller_may facts (action.ReadRound round) h = may_from facts.caller (action.ReadRound round) (h 0 UnknownKey refl)
    (h 1 NoRole refl)
caller_may facts (action.Submit round number token answer) h =
    may_from facts.caller (action.Submit round number token answer) (h 0 UnknownKey refl) (h 1 NoRole refl)
caller_may facts (action.Answers round) h = may_from facts.caller (action.Answers round) (h 0 UnknownKey refl)
    (h 1 NoRole refl)
caller_may facts (action.Solutions round) h = may_from facts.caller (action.Solutions round) (h 0 UnknownKey refl)
    (h 1 NoRole refl)
caller_may facts (action.Protest round token number text) h =
    may_from facts.caller (action.Protest round token number text) (h 0 UnknownKey refl) (h 1 NoRole refl)
caller_may facts (action.Protests round) h = may_from facts.caller (action.Protests round) (h 0 UnknownKey refl)
    (h 1 NoRole refl)
caller_may facts (action.RuleProtest round entrant token ruling) h =
    may_from facts.caller (action.RuleProtest round entrant token ruling) (h 0 UnknownKey refl) (h 1 NoRole refl)
caller_may facts (action.Publish round) h = may_from facts.caller (action.Publish round) (h 0 UnknownKey refl)
    (h 1 NoRole refl)
caller_may facts (action.Table round) h = tt

object_there : (facts : Facts) (action : Action) → AllPass facts action → ObjectIsThere facts action
object_there facts (action.Import people) h = tt
object_there facts (action.PutPuzzle key puzzle) h = h 3 Missing refl
object_there facts (action.ReadPuzzle key) h = h 3 Missing refl
object_there facts action.ListPuzzles h = tt
object_there facts (action.Certify key budget) h = h 3 Missing refl
object_there facts action.ListRounds h = tt
object_there facts (action.PutRound round sheet) h = h 2 Missing refl
object_there facts (action.Release round) h = h 2 Missing refl
object_there facts (action.ReadRound round) h = h 2 Missing refl
object_there facts (action.Submit round number token answer) h = h 2 Missing refl
object_there facts (action.Answers round) h = h 2 Missing refl
object_there facts (action.Solutions round) h = h 2 Missing refl
object_there facts (action.Protest round token number text) h = h 2 Missing refl
object_there facts (action.Protests round) h = h 2 Missing refl
object_there facts (action.RuleProtest round entrant token ruling) h = h 2 Missing refl
object_there facts (action.Publish round) h = h 2 Missing refl
object_there facts (action.Table round) h = h 0 Missing refl

still_draft : (facts : Facts) (action : Action) → AllPass facts action → IsStillDraft facts action
still_draft facts (action.PutRound round sheet) h = h 3 NoDraft refl
still_draft facts (action.Release round) h = h 5 NoDraft refl
still_draft facts _ h = tt

token_new : (facts : Facts) (action : Action) → AllPass facts action → TokenIsNew facts action
token_new facts (action.Submit round number token answer) h = h 4 TokenTaken refl (h 0 UnknownKey refl)
token_new facts (action.Protest round token number text) h = h 4 TokenTaken refl (h 0 UnknownKey refl)
token_new facts _ h = tt

ruling_new : (facts : Facts) (action : Action) → AllPass facts action → RulingIsNew facts action
ruling_new facts (action.RuleProtest round entrant token ruling) h = h 4 RuledOtherwise refl
ruling_new facts _ h = tt

below_limit : (facts : Facts) (action : Action) → AllPass facts action → IsBelowLimit facts action
below_limit facts (action.PutPuzzle key puzzle) h = h 5 LimitReached refl (h 0 UnknownKey refl)
below_limit facts (action.Submit round number token answer) h = h 8 LimitReached refl (h 0 UnknownKey refl)
below_limit facts (action.Protest round token number text) h = h 8 LimitReached refl (h 0 UnknownKey refl)
below_limit facts _ h = tt

own_puzzle : (facts : Facts) (action : Action) → AllPass facts action → NamesOwnPuzzle facts action
own_puzzle facts (action.PutPuzzle key puzzle) h = h 2 OtherAuthor refl
own_puzzle facts (action.ReadPuzzle key) h = h 2 OtherAuthor refl
own_puzzle facts (action.Certify key budget) h = h 2 OtherAuthor refl
own_puzzle facts _ h = λ person key caller named. let no : None ≡ Some key = named in cc

by_others : (facts : Facts) (action : Action) → AllPass facts action → IsByOthers facts action
by_others facts (action.ReadRound round) h = h 3 OwnPuzzle refl
by_others facts (action.Submit round number token answer) h = h 3 OwnPuzzle refl
by_others facts (action.Protest round token number text) h = h 3 OwnPuzzle refl
by_others facts _ h = tt

no_other_round : (facts : Facts) (action : Action) → AllPass facts action → StandsInNoReleased facts action
no_other_round facts (action.PutPuzzle key puzzle) h = h 4 InReleasedRound refl
no_other_round facts (action.Release round) h = h 3 InReleasedRound refl
no_other_round facts _ h = tt

certified : (facts : Facts) (action : Action) → AllPass facts action → AreCertified facts action
certified facts (action.Release round) h = h 4 NotCertified refl
certified facts _ h = tt

published : (facts : Facts) (action : Action) → AllPass facts action → IsPublishedAsAsked facts action
published facts (action.Submit round number token answer) h = h 7 Published refl
published facts (action.Protest round token number text) h = h 7 Published refl
published facts (action.Publish round) h = h 4 Published refl
published facts (action.Table round) h = h 1 Published refl
published facts _ h = tt

protests_ruled : (facts : Facts) (action : Action) → AllPass facts action → AreProtestsRuled facts action
protests_ruled facts (action.Publish round) h = h 5 OpenProtest refl
protests_ruled facts _ h = tt

uninvolved : (facts : Facts) (action : Action) → AllPass facts action → IsUninvolved facts action
uninvolved facts (action.RuleProtest round entrant token ruling) h = h 3 Involved refl
uninvolved facts _ h = tt

no_conflict : (facts : Facts) (action : Action) → AllPass facts action → HasNoConflict facts action
no_conflict facts (action.Import people) h = h 2 ListConflict refl
no_conflict facts _ h = tt

pub implied_allow : (facts : Facts) (action : Action) → AllPass facts action → IsAllowable facts action
implied_allow facts action h = record {
  caller = caller_may facts action h;
  object = object_there facts action h;
  draft = still_draft facts action h;
  token = token_new facts action h;
  ruling = ruling_new facts action h;
  below_limit = below_limit facts action h;
  author = own_puzzle facts action h;
  by_others = by_others facts action h;
  no_other_round = no_other_round facts action h;
  certified = certified facts action h;
  published = published facts action h;
  protests_ruled = protests_ruled facts action h;
  uninvolved = uninvolved facts action h;
  no_conflict = no_conflict facts action h;
}

-- the rules pass that are asked before the one that finds a repetition
abbrev pub EarlierPass : Facts → Action → Type 0
EarlierPass facts action = (k : ℕ) (r : Rule) → slice_get (rules_asked action) k ≡ Some r
    → number_of r < deciding action Repeat → PassImplies r facts action

pub implied_repeat : (facts : Facts) (action : Action) → IsSame facts action → EarlierPass facts action
    → IsRepetition facts action
implied_repeat facts (action.Submit round number token answer) same h = record {
  caller = may_from facts.caller (action.Submit round number token answer) (h 0 UnknownKey refl (lit< tt))
      (h 1 NoRole refl (lit< tt));
  object = h 2 Missing refl (lit< tt);
  same = same;
}
implied_repeat facts (action.Protest round token number text) same h = record {
  caller = may_from facts.caller (action.Protest round token number text) (h 0 UnknownKey refl (lit< tt))
      (h 1 NoRole refl (lit< tt));
  object = h 2 Missing refl (lit< tt);
  same = same;
}
implied_repeat facts (action.RuleProtest round entrant token ruling) same h = record {
  caller = may_from facts.caller (action.RuleProtest round entrant token ruling) (h 0 UnknownKey refl (lit< tt))
      (h 1 NoRole refl (lit< tt));
  object = h 2 Missing refl (lit< tt);
  same = same;
}
implied_repeat facts _ same h = absurd same

-- the round that is shown has the answer's number
pub submit_there : (facts : Facts) (named : Action) (round : List ℕ) (number : ℕ) (token answer : List ℕ)
    → named ≡ action.Submit round number token answer →
    (shown : RoundIsThere facts named) → EntryIsThere shown.row number → ObjectIsThere facts named
submit_there facts named round number token answer is shown entry =
    subst (λ (a : Action). (round : RoundIsThere facts a) → EntryIsThere round.row number → ObjectIsThere facts a)
    (sym is) (λ s e. record { round = s; entry = e }) shown entry

pub protest_there : (facts : Facts) (named : Action) (round token : List ℕ) (number : ℕ) (text : List ℕ)
    → named ≡ action.Protest round token number text →
    (shown : RoundIsThere facts named) → EntryIsThere shown.row number → ObjectIsThere facts named
protest_there facts named round token number text is shown entry =
    subst (λ (a : Action). (round : RoundIsThere facts a) → EntryIsThere round.row number → ObjectIsThere facts a)
    (sym is) (λ s e. record { round = s; entry = e }) shown entry
