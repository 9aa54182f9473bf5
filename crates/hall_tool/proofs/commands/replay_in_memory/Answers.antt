use Rattle.std.proofs.Common.{inl}
use Rattle.hall_tool.proofs.commands.replay_in_memory.Goals as goal

pub returns-in-Ok-open_in_memory : goal.returns-in-Ok-open_in_memory
returns-in-Ok-open_in_memory g c = let done = rw c.as_slice.ensures.value at c.task_over-left.ensures in
    inl (
      c.in-Ok.list.items,
      c.in-Ok-open_in_memory.store,
      c.task_over-left.result.0,
      c.in-Ok.ensures.given,
      c.in-Ok-open_in_memory.ensures.empty,
      c.in-Ok-open_in_memory.ensures.bare,
      done,
    )
