use Rattle.std.proofs.Common.{inl, inr, Ok, Some, subst}
use Rattle.sqlite.specs.Held.{state}
use Rattle.hall_sql.specs.Standing.{KeptTablesIn}
use Rattle.hall_sql.specs.Tables.{old_schema}
use Rattle.hall_sql.proofs.TransactionLemmas.{rests_itself}
use Rattle.hall_tool.proofs.migrate.migrate_at.Goals as goal

pub returns-in-Ok-Some : goal.returns-in-Ok-Some
returns-in-Ok-Some g c = (
  Ok (Some c.in-Ok-Some.source),
  c.open_old.new.files,
  rw c.in-Ok-Some.field-0-is at c.in-Ok-Some.ensures.asked,
  (
    c.migrate_into-ended.new.source,
    rw c.into_connection.ensures.same at c.give_back.ensures,
    elim c.migrate_into-ended.ensures [
      | inl it ↦ it.8.rested
      | inr it ↦
          let end = state g.S.Store c.migrate_into-ended.new.source in
          subst (λ s. KeptTablesIn old_schema (state g.S.Store s) end) it.2
          (rests_itself end (rw c.into_connection.ensures.same at c.into_connection.ensures.old))
    ],
    rw c.in-Ok-Some.field-0-is at c.in-Ok-Some.ensures.starts,
    c.migrate_into-ended.ensures,
  ),
)
