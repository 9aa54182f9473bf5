use Rattle.std.proofs.Common.{◌∙◌, sym, arith}
use Rattle.hall_sheet.proofs.Lines.{three_are, not_three, one_of_three}
use Rattle.hall_sheet.proofs.entry.read_line.Goals as goal
use Rattle.hall_sheet.proofs.entry.read_line.Goals.{in_default-via-in-3+in-Some+in-Some+in_default}
use Rattle.hall_sheet.proofs.entry.read_line.Goals.{in_default-via-in-3+in-Some+in_default}
use Rattle.hall_sheet.proofs.entry.read_line.Goals.{in_default-via-in-3+in_default, in_default-via-in_default}

pub returns-in-3-Some-Some-Some : goal.returns-in-3-Some-Some-Some
returns-in-3-Some-Some-Some c =
    three_are _ _ _ _ (sym c.len.ensures ∙ c.in-3-Some-Some-Some.is-0)
    (rw c.in-3-Some-Some-Some.is-1 at c.get.ensures.value)
    (rw c.in-3-Some-Some-Some.is-2 at c.get-2.ensures.value)
    (rw c.in-3-Some-Some-Some.is-3 at c.get-3.ensures.value)

pub returns-in_default : goal.returns-in_default
returns-in_default c = elim c.in_default.branch [
  | in_default-via-in-3+in-Some+in-Some+in_default w ↦ one_of_three _ 2 (sym c.len.ensures ∙ w.in_default.is-0)
      (omega arith) (rw w.in_default.is-3 at c.get-3.ensures.value)
  | in_default-via-in-3+in-Some+in_default w ↦ one_of_three _ 1 (sym c.len.ensures ∙ w.in_default.is-0) (omega arith)
      (rw w.in_default.is-2 at c.get-2.ensures.value)
  | in_default-via-in-3+in_default w ↦ one_of_three _ 0 (sym c.len.ensures ∙ w.in_default.is-0) (omega arith)
      (rw w.in_default.is-1 at c.get.ensures.value)
  | in_default-via-in_default w ↦ not_three _ (λ e. w.in_default.is-0.1 (c.len.ensures ∙ e))
]
