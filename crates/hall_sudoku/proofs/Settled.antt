-- Where no cell has a value that follows, no deduction is left.
use Rattle.std.proofs.Common.{◌≡◌, ℕ, ◌<◌, List, Option, Some, None, length, get_or, sym, ◌∙◌, ap, subst, arith}
use Rattle.hall_grid.specs.declared.board.Size.{Size}
use Rattle.hall_grid.specs.Board.{cells, row, col}
use Rattle.hall_grid.specs.Sudoku.{box}
use Rattle.hall_sudoku.specs.declared.singles.Shared.{Shared}
use Rattle.hall_sudoku.specs.Values.{Has}
use Rattle.hall_sudoku.specs.Settled.{StandsIn, MayTake, HaveNoClash, HaveTwoCells, IsBoardSettled}
use Rattle.hall_sudoku.proofs.Tables.{none_from}
use Rattle.hall_sudoku.specs.Candidates.{AreCandidates, AreShared, AreAllShared, AreComplete, AreAllComplete}
use Rattle.hall_sudoku.specs.Candidates.{HaveNoSole}

module _ (size : Size) (p : List (Option ℕ)) (candidates : List ℕ) (exact : length p ≡ cells size)
    (holds : AreCandidates size p candidates) where
  -- an open cell may take what is left to it
  may : (cell v : ℕ) → cell < cells size → get_or p cell None ≡ None → Has (get_or candidates cell 0) v
      → MayTake size p cell v
  may cell v within unset h = (holds cell within).unset (omega (arith, within, exact), unset) v h

  -- a cell to which a value is left that stands nowhere in its unit is open
  is_open : (unit : ℕ → ℕ) (cell v at : ℕ) → cell < cells size → unit cell ≡ at → Has (get_or candidates cell 0) v
      → (StandsIn unit p at v → ⊥) → get_or p cell None ≡ None
  is_open unit cell v at within in_unit h nowhere =
      none_from (get_or p cell None) (λ w e. nowhere (record {
        cell = cell;
        within = omega (arith, within, exact);
        unit_is = in_unit;
        value_is = e
            ∙ ap Some (sym ((holds cell within).set w e v h));
      }))

  two_cells : (unit : ℕ → ℕ) (shared : List ℕ) → AreShared unit (cells size) candidates shared
      → AreComplete unit (cells size) candidates size.cols
      → ((cell : ℕ) → cell < cells size → get_or p cell None ≡ None → (v : ℕ) → Has (get_or candidates cell 0) v
      → Has (get_or shared (unit cell) 0) v) → HaveTwoCells size unit p
  two_cells unit shared sh complete again at v ha hv nowhere =
      let s = complete at v ha hv in
      let unset = is_open unit s.cell v at s.before s.unit_is s.has nowhere in
      let two = sh.alone at v (subst (λ a. Has (get_or shared a 0) v) s.unit_is
      (again s.cell s.before unset v s.has)) in
      let first_small : two.first < cells size = omega (arith, two.order, two.before) in
      record {
        first = two.first;
        second = two.second;
        differ = λ e. omega (arith, two.order, e);
        in_first = two.in_first;
        in_second = two.in_second;
        may_first = may two.first v first_small (is_open unit two.first v at first_small two.in_first two.has_first
            nowhere) two.has_first;
        may_second = may two.second v two.before (is_open unit two.second v at two.before two.in_second two.has_second
            nowhere) two.has_second;
      }

  pub settled_of : HaveNoClash size p → (shared : Shared) → AreAllShared size candidates shared
      → AreAllComplete size candidates → HaveNoSole size p candidates shared → IsBoardSettled size p
  settled_of apart shared sh complete none = record {
    apart = apart;
    cells = λ cell free.
        let within : cell < cells size = omega (arith, free.0, exact) in
        let two = (none cell within free.1).two in
        record {
          first = two.first;
          second = two.second;
          differ = two.differ;
          may_first = may cell two.first within free.1 two.has_first;
          may_second = may cell two.second within free.1 two.has_second;
        };
    rows = two_cells (row size) shared.rows sh.rows complete.rows (λ cell within unset. (none cell within unset).rows);
    columns = two_cells (col size) shared.columns sh.columns complete.columns
        (λ cell within unset. (none cell within unset).columns);
    boxes = two_cells (box size) shared.boxes sh.boxes complete.boxes
        (λ cell within unset. (none cell within unset).boxes);
  }
