use Rattle.std.proofs.Common.{string_bytes}
use Rattle.hall_tool.proofs.Spelling.{no_command}
use Rattle.hall_tool.proofs.words.page_of.Goals as goal

pub returns-in_default-as_str : goal.returns-in_default-as_str
returns-in_default-as_str c =
    let text = c.as_str.ensures.value in
    let others = c.in_default-as_str in
    no_command string_bytes c.args.words.now c.in-Some.name.now c.in-Some.ensures.value
    (rw text at others.not-judge) (rw text at others.not-solve) (rw text at others.not-init)
    (rw text at others.not-serve) (rw text at others.not-replay) (rw text at others.not-table)
    (rw text at others.not-migrate) (rw text at others.not-check)
