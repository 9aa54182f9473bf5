use Rattle.std.proofs.Common.{refl}
use Rattle.hall_tool.proofs.run.run_command.Goals as goal

pub returns-in-Init-clause-run : goal.returns-in-Init-clause-run
returns-in-Init-clause-run g c = rw c.in-Init.is (rw (c.as_str-db.ensures, c.as_str-people.ensures) at
    c.init_at.ensures)

pub returns-in-Serve-clause-run : goal.returns-in-Serve-clause-run
returns-in-Serve-clause-run g c = rw c.in-Serve.is (rw (c.as_str.ensures, c.as_str-in-Serve.ensures) at
    c.task_at.ensures)

pub returns-in-Replay-clause-run : goal.returns-in-Replay-clause-run
returns-in-Replay-clause-run g c = rw c.in-Replay.is (rw c.as_str-people-in-Replay.ensures at
    c.replay_in_memory.ensures)

pub returns-in-Table-clause-run : goal.returns-in-Table-clause-run
returns-in-Table-clause-run g c =
    rw c.in-Table.is
    (rw (c.as_bytes.ensures.value, c.as_str-in-Table.ensures, c.as_str-in-Table-2.ensures) at
    c.task_at-in-Table.ensures)

pub returns-in-Migrate-clause-run : goal.returns-in-Migrate-clause-run
returns-in-Migrate-clause-run g c =
    rw c.in-Migrate.is
    (rw (c.as_str-in-Migrate.ensures, c.as_str-in-Migrate-2.ensures) at c.migrate_at.ensures, refl, refl)

pub returns-in-Check-clause-run : goal.returns-in-Check-clause-run
returns-in-Check-clause-run g c = rw c.in-Check.is (
  rw c.as_str-in-Check.ensures at c.check_at.ensures,
  refl,
  refl,
  refl,
)
