use Rattle.hall_policy.specs.Ranges.{IsEntry}
use Rattle.hall_policy.specs.declared.record.Entry.{Entry}
use Rattle.hall_policy.specs.declared.record.PlaceKey.{PlaceKey}
use Rattle.hall_check.proofs.EachRow.{each_step, each_done}
use Rattle.hall_check.proofs.ranges.read_places.Goals as goal

pub loop-place-preserved : goal.loop-place-preserved
loop-place-preserved c =
    each_step (λ (place : PlaceKey × Entry). IsEntry place.1) c.args.places.now c.loop-place.place-index
    c.place-item.result c.loop-place.invariant c.place-item.is c.read_entry.ensures

pub returns : goal.returns
returns c =
    each_done (λ (place : PlaceKey × Entry). IsEntry place.1) c.args.places.now c.loop-place.place-index
    c.loop-place.invariant c.loop-place-test.false
