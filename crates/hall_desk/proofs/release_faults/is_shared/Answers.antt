use Rattle.std.proofs.Common.{◌≢◌, ◌↔◌, ℕ, List, Contains, IsTrue, ◌∙◌}
use Rattle.hall_policy.specs.Rules.{StandsReleased}
use Rattle.hall_store.specs.Store.{AreUsing}
use Rattle.hall_desk.specs.Lookups.{IsReleasedRound}
use Rattle.hall_store.proofs.Knowing.{carried, told_through}
use Rattle.hall_desk.proofs.Releases.{others_using, through}
use Rattle.hall_desk.proofs.release_faults.is_shared.Goals as goal

pub returns-clause-told : goal.returns-clause-told
returns-clause-told g c =
    let read = c.in_ok-others.ensures in
    let asked = g.S.ReadStore.content c.rounds_using.new.self in
    let new = g.S.ReadStore.content c.any_released.new.store in
    let key = c.args.key.now in
    let id = c.args.id.now in
    told_through c.any_released.result
    (λ world found. IsTrue found ↔ ((other : List ℕ) × Contains c.as_slice.result.now other
    × IsReleasedRound world other))
    (λ world found. IsTrue found ↔ ((other : List ℕ) × (other ≢ id) × StandsReleased world key other))
    (g.S.ReadStore.content c.args.store.now) asked new c.any_released.ensures.kept (λ h s. (read.served h).0)
    (λ found h s told.
    through told (others_using new.world key id c.in_ok-others.others.items c.as_slice.result.now
    (carried (λ w. AreUsing w key c.in_ok-others.others.items) asked new c.any_released.ensures.kept
    (λ h0 s0. (read.served h0).1) h s)
    (c.as_slice.ensures.value ∙ c.leave_out.ensures)))
    c.any_released.ensures.told
