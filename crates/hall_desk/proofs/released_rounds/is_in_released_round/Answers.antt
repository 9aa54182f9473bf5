use Rattle.std.proofs.Common.{◌↔◌, ℕ, List, Contains, IsTrue, subst, sym}
use Rattle.hall_policy.specs.Rules.{StandsReleased}
use Rattle.hall_store.specs.Store.{AreUsing}
use Rattle.hall_desk.specs.Lookups.{IsReleasedRound}
use Rattle.hall_store.proofs.Knowing.{carried, told_through}
use Rattle.hall_desk.proofs.Releases.{released_using, through}
use Rattle.hall_desk.proofs.released_rounds.is_in_released_round.Goals as goal

pub returns-clause-told : goal.returns-clause-told
returns-clause-told g c =
    let read = c.in_ok-ids.ensures in
    let asked = g.S.ReadStore.content c.rounds_using.new.self in
    let new = g.S.ReadStore.content c.any_released.new.store in
    let key = c.args.key.now in
    told_through c.any_released.result
    (λ world found. IsTrue found ↔ ((id : List ℕ) × Contains c.as_slice.result.now id × IsReleasedRound world id))
    (λ world found. IsTrue found ↔ ((id : List ℕ) × StandsReleased world key id))
    (g.S.ReadStore.content c.args.store.now) asked new c.any_released.ensures.kept (λ h s. (read.served h).0)
    (λ found h s told.
    through told (released_using new.world key c.as_slice.result.now
    (subst (AreUsing new.world key) (sym c.as_slice.ensures.value)
    (carried (λ w. AreUsing w key c.in_ok-ids.ids.items) asked new c.any_released.ensures.kept
    (λ h0 s0. (read.served h0).1) h s))))
    c.any_released.ensures.told
