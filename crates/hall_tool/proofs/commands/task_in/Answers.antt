use Rattle.hall_tool.proofs.commands.task_in.Goals as goal

pub returns : goal.returns
returns g c = (
  c.task_over-left.result.0,
  rw c.into_connection.ensures.same at c.give_back.ensures,
  rw c.into_connection.ensures.same at c.into_connection.ensures.hall,
  c.task_over-left.ensures,
)
