use Rattle.std.proofs.Common.{subst}
use Rattle.hall_store.specs.Change.{CanMake}
use Rattle.hall_store.specs.declared.change.Change.{Change}
use Rattle.hall_desk.proofs.step.make.Goals as goal

pub import-requires : goal.import-requires
import-requires g c = λ h s.
    let world = (g.S.ReadStore.content c.args.store.now).world in
    subst (λ (change : Change). CanMake change world) c.in-Import.is (c.requires h s)
