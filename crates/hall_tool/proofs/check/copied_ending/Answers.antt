use Rattle.std.specs.Prelude.{string_bytes}
use Rattle.std.proofs.lemmas.Result.{IfOk-weaker}
use Rattle.sqlite.specs.Held.{state}
use Rattle.hall_tool.proofs.Checking.{copy_refused, copy_text, copy_unread, never_occupied, store_failed}
use Rattle.hall_tool.proofs.check.copied_ending.Goals as goal

pub returns-in-Ok-Done-clause-text : goal.returns-in-Ok-Done-clause-text
returns-in-Ok-Done-clause-text g c =
    let done = rw c.in-Ok-Done.field-0-is at c.in-Ok-Done.ensures in
    let old = state g.S.Store c.args.store.now in
    let new = state g.S.Store c.migrate.new.old in
    IfOk-weaker c.world_ending.result _ _ (λ ending told. copy_text c.args.budget old new c.in-Ok.copy c.migrate.new.new
    c.world_ending.new.store c.in-Ok-Done.field-0-0 (string_bytes ending.line) ending.status done told.1)
    c.world_ending.ensures.text

pub returns-in-Err-clause-fault : goal.returns-in-Err-clause-fault
returns-in-Err-clause-fault g c is = absurd (c.in-Err.ensures.cause
    (store_failed c.in-Err.fault c.told.result c.told.ensures is))

pub returns-in-Ok-Done-clause-fault : goal.returns-in-Ok-Done-clause-fault
returns-in-Ok-Done-clause-fault g c is =
    let done = rw c.in-Ok-Done.field-0-is at c.in-Ok-Done.ensures in
    copy_unread (state g.S.Store c.args.store.now) (state g.S.Store c.migrate.new.old) c.in-Ok.copy c.in-Ok.ensures.bare
    c.migrate.new.new c.world_ending.new.store c.in-Ok-Done.field-0-0
    done c.world_ending.ensures.kept (c.world_ending.ensures.fault is)

pub returns-in-Ok-Occupied-clause-fault : goal.returns-in-Ok-Occupied-clause-fault
returns-in-Ok-Occupied-clause-fault g c is =
    let occupied = rw c.in-Ok-Occupied.field-0-is at c.in-Ok-Occupied.ensures in
    never_occupied (state g.S.Store c.args.store.now) (state g.S.Store c.migrate.new.old) c.in-Ok.copy
    c.in-Ok.ensures.bare c.migrate.new.new c.in-Ok.ensures.empty occupied

pub returns-clause-fault : goal.returns-clause-fault
returns-clause-fault g c is =
    copy_refused (state g.S.Store c.args.store.now) (state g.S.Store c.migrate.new.old) c.in-Ok.copy
    c.in-Ok.ensures.bare c.migrate.new.new c.in-Err-migrate.fault c.in-Err-migrate.ensures
    (store_failed c.in-Err-migrate.fault c.told-in-Err-migrate.result c.told-in-Err-migrate.ensures is)
