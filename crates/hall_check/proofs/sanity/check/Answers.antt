use Rattle.std.proofs.Common.{subst}
use Rattle.hall_policy.specs.World.{World}
use Rattle.hall_check.specs.Checked.{IsChecked}
use Rattle.hall_check.proofs.WholeWorlds.{whole_world}
use Rattle.hall_check.proofs.sanity.check.Goals as goal

pub returns-clause-served : goal.returns-clause-served
returns-clause-served g c = λ h.
    let served = c.in_ok-whole.ensures.served h in
    let world = (g.S.ReadStore.content c.read_whole.new.store).world in
    let is = whole_world world c.in_ok-whole.whole served.1 in (
      served.0,
      subst (λ (w : World). IsChecked w c.args.budget c.in_ok-check_whole.field-0) is.0
          (c.in_ok-check_whole.ensures is.1),
    )
