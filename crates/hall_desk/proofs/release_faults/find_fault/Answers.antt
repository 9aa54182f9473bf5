use Rattle.std.proofs.Common.{◌↔◌, IsTrue, Contains, Option, Some, List, subst}
use Rattle.std.proofs.lemmas.Bool.{false≢true}
use Rattle.hall_policy.specs.World.{IsRoundAt}
use Rattle.hall_policy.specs.Facts.{IsRoundFound}
use Rattle.hall_policy.specs.declared.record.Entry.{Entry}
use Rattle.hall_policy.specs.declared.record.RoundRow.{RoundRow}
use Rattle.hall_store.specs.Store.{IsRoundKept}
use Rattle.hall_desk.specs.Lookups.{HasFault, HasFaultyEntry}
use Rattle.hall_store.proofs.Knowing.{carried, told_turn}
use Rattle.hall_desk.proofs.Releases.{faulty_listed, through}
use Rattle.hall_desk.proofs.release_faults.find_fault.Goals as goal

pub returns-in-Some-clause-told : goal.returns-in-Some-clause-told
returns-in-Some-clause-told g c =
    let old = g.S.ReadStore.content c.args.store.now in
    let new = g.S.ReadStore.content c.any_faulty.new.store in
    let id = c.args.id.now in
    let row = c.in-Some.row in
    let fault = c.args.fault in
    told_turn c.any_faulty.result
    (λ world found. IsTrue found ↔ ((entry : Entry) × Contains c.as_slice.result.now entry
    × HasFault fault world id entry))
    (λ world found. IsTrue found ↔ HasFaultyEntry fault world id) old new
    (λ found h s told.
    let kept : IsRoundKept new.world id c.args.round.now = carried (λ w. IsRoundKept w id c.args.round.now) old new
    c.any_faulty.ensures.kept c.requires h s in
    let at : IsRoundAt new.world id row = subst (λ (o : Option RoundRow). IsRoundFound new.world (Some id) o)
    c.in-Some.is kept.row in
    through (subst (λ (entries : List Entry). IsTrue found ↔
    ((entry : Entry) × Contains entries entry × HasFault fault new.world id entry)) c.as_slice.ensures.value told)
    (faulty_listed fault new.world id row at))
    c.any_faulty.ensures.told

pub returns-in-None-clause-told : goal.returns-in-None-clause-told
returns-in-None-clause-told g c = (
  (λ h s. s),
  (λ h s. ((λ t. absurd (false≢true t)), (λ f. absurd ((c.requires h s).empty c.in-None.is f.0 f.1)))),
)
