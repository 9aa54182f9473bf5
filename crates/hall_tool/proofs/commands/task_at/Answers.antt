use Rattle.std.proofs.Common.{inl}
use Rattle.hall_tool.proofs.commands.task_at.Goals as goal

pub returns-in-Ok : goal.returns-in-Ok
returns-in-Ok g c = inl (
  c.in-Ok.store,
  c.task_in.ensures.0,
  c.open_there.new.files,
  c.in-Ok.ensures.opened,
  c.task_in.ensures.1,
  c.task_in.ensures.2,
  c.in-Ok.ensures.starts,
  c.task_in.ensures.3,
)
