use Rattle.std.specs.Prelude.{string_bytes}
use Rattle.hall_tool.proofs.check.old_ending.Goals as goal

pub returns-in_ok-versioned-in-Ok-clause-text : goal.returns-in_ok-versioned-in-Ok-clause-text
returns-in_ok-versioned-in-Ok-clause-text g c = (
  string_bytes c.in-Ok.found.line,
  c.in_ok-versioned-in-Ok.ensures.line,
  rw c.in_ok-versioned-in-Ok.ensures.status c.in-Ok.ensures.text,
)
