-- A round that is published keeps the world sane.
use Rattle.std.proofs.Common.{◌≡◌, ℕ, true, List, Option, Some, refl, sym, ◌∙◌, subst, lit<}
use Rattle.hall_policy.specs.World.{World}
use Rattle.hall_policy.specs.First.{NoneDecides}
use Rattle.hall_policy.specs.declared.rule.Rule.TheVariants as rule
use Rattle.hall_policy.specs.declared.record.Person.{Person}
use Rattle.hall_policy.specs.declared.record.PuzzleState.{PuzzleState}
use Rattle.hall_policy.specs.declared.record.Round.{Round}
use Rattle.hall_policy.specs.declared.request.Action.TheVariants as action
use Rattle.hall_desk.specs.Step.{Allowed}
use Rattle.hall_desk.specs.Sane.{Sane}
use Rattle.hall_desk.specs.declared.reply.Reply.{Reply}
use Rattle.hall_desk.proofs.FlagsSane.{flags_sane}
use Rattle.hall_desk.proofs.Releases.{released_found}

-- a Publish keeps the world sane: its rules deny a draft, and a round with an open protest
pub publish_step : (world : World) (caller : Option Person) (id : List ℕ) (t : ℕ) (found : PuzzleState) (given : Reply)
    (new : World) → Sane world →
    NoneDecides world caller (action.Publish id) t → Allowed world caller (action.Publish id) t found given new
    → Sane new
publish_step world caller id t found given new sane none (round, kept, reply, made) =
    let there = released_found world caller (action.Publish id) id refl
    (λ missing. (none rule.Missing (lit< tt)).0 ((2, lit< tt, refl), missing)) in
    let both : Some there.0 ≡ Some round = sym there.1 ∙ kept in
    let one : there.0 ≡ round = cc in
    let released : round.released ≡ true = subst (λ (r : Round). r.released ≡ true) one there.2 in
    subst Sane (sym made)
    (flags_sane world id round round.released true kept released sane
    (λ entry lists. sane.certified id entry.puzzle (round, entry, kept, released, lists, refl))
    (λ entry other lists differ stands. differ (sane.in_one_round other id entry.puzzle stands
    (round, entry, kept, released, lists, refl)))
    (λ _ key row of found unruled. (none rule.OpenProtest (lit< tt)).0
    ((5, lit< tt, refl), (id, key, row, refl, of, found, unruled))))
