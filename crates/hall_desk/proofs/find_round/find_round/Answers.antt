use Rattle.std.proofs.Common.{◌≡◌, inl, inr, ℕ, List, Option, Some, None, refl}
use Rattle.std.proofs.lemmas.Result.{IfErr-weaker}
use Rattle.std.specs.FinMap.{get}
use Rattle.hall_policy.specs.World.{World}
use Rattle.hall_policy.specs.declared.record.Round.{Round}
use Rattle.hall_store.specs.Store.{HasNoRound}
use Rattle.hall_desk.specs.Sane.{Sane}
use Rattle.hall_desk.proofs.Failing.{plan_cause}
use Rattle.hall_desk.proofs.find_round.find_round.Goals as goal

-- a sane world keeps nothing under the id, or a round with its lists
never_in_sane : (world : World) (id : List ℕ) → HasNoRound world id → ¬ (Sane world)
never_in_sane world id none sane = at (get world.rounds id) refl
  where
    at : (o : Option Round) → get world.rounds id ≡ o → ⊥
    at (Some round) is = none.1 (sane.typed.lists id round is)
    at None is = none.0 (record {
      row = is;
      empty = λ _ entry listed. sane.typed.homes (record { round = id; number = listed.0 }) entry listed.1 is;
    })

pub returns-clause-fault : goal.returns-clause-fault
returns-clause-fault g c =
    let old = g.S.ReadStore.content c.args.store.now in
    let new = g.S.ReadStore.content c.round.new.self in
    IfErr-weaker c.round.result _ _ (λ fault cause failed. plan_cause old new (elim (cause failed) [
      | inl can ↦ inl can
      | inr none ↦ inr (λ h. let it = none h in (it.0, never_in_sane new.world c.args.id.now it.1))
    ])) c.round.ensures.fault
