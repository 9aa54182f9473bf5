use Rattle.std.proofs.Common.{inl}
use Rattle.hall_tool.proofs.migrate.migrate_into.Goals as goal

pub returns-in-Ok : goal.returns-in-Ok
returns-in-Ok g c = inl (
  c.in-Ok.target,
  c.migrate_run-ended.new.target,
  c.open_at.new.files,
  c.migrate_run-ended.result,
  c.in-Ok.ensures.opened,
  rw c.into_connection.ensures.same at c.give_back.ensures,
  rw c.into_connection.ensures.same at c.into_connection.ensures.hall,
  c.in-Ok.ensures.starts,
  c.migrate_run-ended.ensures,
  c.command_end.ensures,
)
