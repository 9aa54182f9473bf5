use Rattle.std.proofs.Common.{inl}
use Rattle.hall_tool.proofs.commands.init_at.Goals as goal

pub returns-in-Ok-open_at : goal.returns-in-Ok-open_at
returns-in-Ok-open_at g c = let done = rw c.as_slice.ensures.value at c.task_in.ensures in
    inl (
      c.in-Ok.list.items,
      c.read.new.self,
      c.open_at.new.files,
      c.in-Ok-open_at.store,
      done.0,
      c.in-Ok.ensures.given,
      c.in-Ok-open_at.ensures.opened,
      done.1,
      done.2,
      c.in-Ok-open_at.ensures.starts,
      done.3,
    )
