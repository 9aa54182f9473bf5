use Rattle.hall_tool.proofs.Checking.{store_failed, world_checked}
use Rattle.hall_tool.proofs.check.world_ending.Goals as goal

pub returns-in_ok-world_text-in-Ok-clause-text : goal.returns-in_ok-world_text-in-Ok-clause-text
returns-in_ok-world_text-in-Ok-clause-text g c = (
  (λ honest. (c.in-Ok.ensures.served honest).0),
  (
    c.in-Ok.checked,
    world_checked c.args.budget (g.S.ReadStore.content c.args.store.now) (g.S.ReadStore.content c.check.new.store)
        c.in-Ok.checked c.in-Ok.ensures.kept c.in-Ok.ensures.served,
    c.in_ok-world_text-in-Ok.ensures.line,
    c.in_ok-world_text-in-Ok.ensures.status,
  ),
)

pub returns-in-Err-clause-fault : goal.returns-in-Err-clause-fault
returns-in-Err-clause-fault g c is = c.in-Err.ensures.fault (store_failed c.in-Err.fault c.told.result c.told.ensures
    is)
