use Rattle.std.proofs.Common.{◌≡◌, ◌+◌, length, get_or, refl, subst, arith}
use Rattle.std.proofs.lemmas.List.{get_or_default}
use Rattle.hall_nurikabe.specs.Counts.{AreCounts}
use Rattle.hall_nurikabe.proofs.AreCounts.{AreCounts-none, AreCounts-skip, AreCounts-count, AreCounts-bound}
use Rattle.hall_nurikabe.proofs.island.count_by_label.Goals as goal
use Rattle.hall_nurikabe.proofs.island.count_by_label.Goals.{then-marks-cell+in-Some, then-marks-cell+in_default}
use Rattle.hall_nurikabe.proofs.island.count_by_label.Goals.{else-marks-cell}

pub loop-cell-init : goal.loop-cell-init
loop-cell-init c = rw (c.in_ok-counts.ensures.items_if_clones_equal (λ y e. e))
    (AreCounts-none c.args.labels.now c.args.marks.now _ refl)

pub overflow_add-index_mut : goal.overflow_add-index_mut
overflow_add-index_mut c =
    let low = c.requires.labels c.loop-cell.cell c.in-Some.label c.in-Some.is in
    let whole = c.loop-cell.invariant.exact in
    let few = AreCounts-bound _ _ _ _ c.loop-cell.invariant c.in-Some.label low in
    let same : get_or c.loop-cell.counts.items c.in-Some.label c.index_mut.result.now ≡ get_or c.loop-cell.counts.items
    c.in-Some.label 0 =
    get_or_default c.loop-cell.counts.items c.in-Some.label c.index_mut.result.now 0 (omega arith) in
    let value = c.index_mut.ensures.value in
    omega arith

pub loop-cell-preserved : goal.loop-cell-preserved
loop-cell-preserved c = elim c.if-marks-cell.branch [
  | then-marks-cell+in-Some w ↦
      let low = c.requires.labels c.loop-cell.cell w.in-Some.label w.in-Some.is in
      let whole = c.loop-cell.invariant.exact in
      let same : get_or c.loop-cell.counts.items w.in-Some.label w.index_mut.result.now ≡ get_or
      c.loop-cell.counts.items w.in-Some.label 0 =
      get_or_default c.loop-cell.counts.items w.in-Some.label w.index_mut.result.now 0 (omega arith) in
      let value = w.index_mut.ensures.value in
      rw w.counts-is
      (AreCounts-count _ _ _ _ c.loop-cell.invariant w.in-Some.label (w.index_mut.result.now + 1) low w.in-Some.is
      w.if-marks-cell.true (omega arith))
  | then-marks-cell+in_default w ↦
      rw w.counts-is (AreCounts-skip _ _ _ _ c.loop-cell.invariant (λ label h m. w.in_default.not-Some label h))
  | else-marks-cell w ↦
      rw w.counts-is (AreCounts-skip _ _ _ _ c.loop-cell.invariant
      (λ label h m. let no = w.if-marks-cell.false in absurd (cc)))
]

pub returns : goal.returns
returns c =
    let all : c.loop-cell.cell ≡ length c.args.labels.now = omega arith in
    subst (λ n. AreCounts c.args.labels.now c.args.marks.now n c.loop-cell.counts.items) all c.loop-cell.invariant
