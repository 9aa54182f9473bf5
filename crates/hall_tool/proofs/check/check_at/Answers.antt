use Rattle.std.proofs.Common.{inl}
use Rattle.hall_sql.specs.declared.open_read.FoundHall.TheVariants.{Present, Old}
use Rattle.hall_tool.proofs.Checking.{found_written}
use Rattle.hall_tool.proofs.check.check_at.Goals as goal

pub returns-in-Ok-Present : goal.returns-in-Ok-Present
returns-in-Ok-Present g c = inl (
  Present c.in-Ok-Present.store,
  c.open_to_read.new.files,
  c.present_ending-found.new.store,
  c.write_found.result,
  rw c.in-Ok-Present.field-0-is at c.in-Ok-Present.ensures.opened,
  rw c.in-Ok-Present.field-0-is at c.in-Ok-Present.ensures.starts,
  c.present_ending-found.ensures.kept,
  rw c.into_connection.ensures.same at c.give_back.ensures,
  found_written _ g.W.Write.contents _ _ _ c.present_ending-found.result c.write_found.result
      c.present_ending-found.ensures.text
      c.present_ending-found.ensures.cause c.present_ending-found.ensures.fault c.write_found.ensures.shown
      c.write_found.ensures.fault,
  c.command_end.ensures,
)

pub returns-in-Ok-Old : goal.returns-in-Ok-Old
returns-in-Ok-Old g c = inl (
  Old c.in-Ok-Old.store,
  c.open_to_read.new.files,
  c.old_ending-found.new.store,
  c.write_found-in-Ok-Old.result,
  rw c.in-Ok-Old.field-0-is at c.in-Ok-Old.ensures.opened,
  rw c.in-Ok-Old.field-0-is at c.in-Ok-Old.ensures.starts,
  c.old_ending-found.ensures.rested,
  rw c.into_connection-in-Ok-Old.ensures.same at c.give_back-in-Ok-Old.ensures,
  found_written _ g.W.Write.contents _ _ _ c.old_ending-found.result c.write_found-in-Ok-Old.result
      c.old_ending-found.ensures.text
      c.old_ending-found.ensures.cause c.old_ending-found.ensures.fault c.write_found-in-Ok-Old.ensures.shown
      c.write_found-in-Ok-Old.ensures.fault,
  c.command_end-in-Ok-Old.ensures,
)
