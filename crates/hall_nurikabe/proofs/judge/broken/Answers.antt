use Rattle.std.proofs.lemmas.Result.{IfOk-from_err}
use Rattle.std.proofs.Common.{◌≡◌, length, refl, arith}
use Rattle.hall_grid.specs.Board.{cells, Touch}
use Rattle.hall_grid.specs.Nurikabe.{IsWhite, IsWall}
use Rattle.hall_grid.specs.Component.{AreComponents}
use Rattle.hall_grid.specs.declared.board.Kind.TheVariants.{Nurikabe}
use Rattle.hall_grid.proofs.Naming.{broken_are}
use Rattle.hall_nurikabe.proofs.AreBroken.{AreCells-from_regions, apart_are, without_number_are, with_two_are}
use Rattle.hall_nurikabe.proofs.AreBroken.{other_size_are, number_in_wall_are}
use Rattle.hall_nurikabe.proofs.Marks.{Marks-colour, through}
use Rattle.hall_nurikabe.proofs.judge.broken.Goals as goal

pub count_by_label-requires-clause-labels : goal.count_by_label-requires-clause-labels
count_by_label-requires-clause-labels c = rw c.deref.ensures.value
    (AreCells-from_regions _ c.size-size.result _ _ c.in_ok-islands.ensures)

pub count_by_label-requires-2-clause-labels : goal.count_by_label-requires-2-clause-labels
count_by_label-requires-2-clause-labels c = rw c.deref-3.ensures.value
    (AreCells-from_regions _ c.size-size.result _ _ c.in_ok-islands.ensures)

pub has_label_without_number-requires-clause-labels : goal.has_label_without_number-requires-clause-labels
has_label_without_number-requires-clause-labels c = rw c.deref-8.ensures.value
    (AreCells-from_regions _ c.size-size.result _ _ c.in_ok-islands.ensures)

pub has_other_size-requires-clause-labels : goal.has_other_size-requires-clause-labels
has_other_size-requires-clause-labels c = rw c.deref-11.ensures.value
    (AreCells-from_regions _ c.size-size.result _ _ c.in_ok-islands.ensures)

pub returns : goal.returns
returns c =
    let board = c.args.puzzle.now in
    let f = c.args.filling.now in
    let size = c.size-size.ensures.size in
    let same = c.as_slice-filling.ensures in
    let exact : length f ≡ cells board.size = rw c.requires.kind at c.requires.filling.exact in
    let walls = Marks-colour f 1 c.in_ok-walls.walls.items (rw same at c.in_ok-walls.ensures) in
    let whites = Marks-colour f 0 c.in_ok-whites.whites.items (rw same at c.in_ok-whites.ensures) in
    let a : AreComponents (cells board.size) (Touch board.size) (IsWall board.size f)
    c.in_ok-wall_labels.wall_labels.items
    = (rw (size, same) at c.in_ok-wall_labels.ensures) in
    let i : AreComponents (cells board.size) (Touch board.size) (IsWhite board.size f) c.in_ok-islands.islands.items
    = (rw (size, same) at c.in_ok-islands.ensures) in
    let numbered = c.in_ok-numbered.ensures in
    let numbers = (rw (c.deref.ensures.value, c.deref-2.ensures.value) at c.in_ok-numbers.ensures) in
    let sizes = (rw (c.deref-3.ensures.value, c.deref-4.ensures.value) at c.in_ok-sizes.ensures) in
    let n1 = through (rw (c.deref-5.ensures.value, c.deref-6.ensures.value) at c.have_common_cell.ensures)
    (number_in_wall_are board f _ _ exact numbered walls) in
    let n2 = (rw (size, same) at c.has_pool.ensures) in
    let n3 = through (rw c.deref-7.ensures.value at c.labels_differ.ensures) (apart_are _ _ _ a) in
    let n4 = through (rw (c.deref-8.ensures.value, c.deref-9.ensures.value) at c.has_label_without_number.ensures)
    (without_number_are board f _ i _ _ numbered numbers) in
    let n5 = through (rw c.deref-10.ensures.value at c.has_label_with_two.ensures)
    (with_two_are board f _ i _ _ numbered numbers) in
    let n6 = through (rw (c.deref-11.ensures.value, c.deref-12.ensures.value) at c.has_other_size.ensures)
    (other_size_are board f _ i _ _ (λ cell w. (whites.marked cell).1 (let low = w.0 in omega arith, w.1)) sizes) in
    broken_are Nurikabe board f _ _ c.requires.kind c.new-broken.ensures.empty c.new-broken.ensures.set (
      _,
      _,
      c.insert_if.ensures,
      n1,
      (
        _,
        _,
        c.insert_if-2.ensures,
        n2,
        (
          _,
          _,
          c.insert_if-3.ensures,
          n3,
          (_, _, c.insert_if-4.ensures, n4, (_, _, c.insert_if-5.ensures, n5, (_, _, c.insert_if-6.ensures, n6, refl))),
        ),
      ),
    )

pub returns-in_err-walls : goal.returns-in_err-walls
returns-in_err-walls c = IfOk-from_err c.from_residual.result _ c.from_residual.ensures.0

pub returns-in_err-whites : goal.returns-in_err-whites
returns-in_err-whites c = IfOk-from_err c.from_residual-in_err-whites.result _ c.from_residual-in_err-whites.ensures.0

pub returns-in_err-numbered : goal.returns-in_err-numbered
returns-in_err-numbered c = IfOk-from_err c.from_residual-in_err-numbered.result _
    c.from_residual-in_err-numbered.ensures.0

pub returns-in_err-wall_labels : goal.returns-in_err-wall_labels
returns-in_err-wall_labels c = IfOk-from_err c.from_residual-in_err-wall_labels.result _
    c.from_residual-in_err-wall_labels.ensures.0

pub returns-in_err-islands : goal.returns-in_err-islands
returns-in_err-islands c = IfOk-from_err c.from_residual-in_err-islands.result _
    c.from_residual-in_err-islands.ensures.0

pub returns-in_err-numbers : goal.returns-in_err-numbers
returns-in_err-numbers c = IfOk-from_err c.from_residual-in_err-numbers.result _
    c.from_residual-in_err-numbers.ensures.0

pub returns-in_err-sizes : goal.returns-in_err-sizes
returns-in_err-sizes c = IfOk-from_err c.from_residual-in_err-sizes.result _ c.from_residual-in_err-sizes.ensures.0
