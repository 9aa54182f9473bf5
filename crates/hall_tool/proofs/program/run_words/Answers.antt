use Rattle.std.proofs.Common.{inl}
use Rattle.hall_tool.proofs.program.run_words.Goals as goal

pub returns-in-Ok : goal.returns-in-Ok
returns-in-Ok g c = inl (
  c.in-Ok.command,
  c.run_command-ended.result,
  c.in-Ok.ensures.command,
  (c.run_command-ended.ensures.sources, c.run_command-ended.ensures.run),
  c.end.ensures.told,
  c.end.ensures.status,
)
