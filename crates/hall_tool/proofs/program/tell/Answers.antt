use Rattle.hall_tool.proofs.Telling.{both_told, either_end}
use Rattle.hall_tool.proofs.program.tell.Goals as goal

pub returns : goal.returns
returns g c =
    either_end c.write_all.result _ _ _
    (both_told c.write_all.result _ _ c.write_all.ensures.same
    (rw c.as_bytes.ensures.value at c.write_all.ensures.written))
    c.write_all.ensures.device (rw c.as_bytes.ensures.value at c.write_all.ensures.part)
