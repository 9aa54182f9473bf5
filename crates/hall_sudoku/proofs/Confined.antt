-- Values that a unit may have in one of its parts only.
use Rattle.std.proofs.Common.{◌≡◌, ◌⊎◌, ◌↔◌, ℕ, ◌+◌, ◌*◌, ◌/◌, ◌%◌, ◌<◌, List, length, get_or, set, sym, ◌∙◌, ap, subst}
use Rattle.std.proofs.Common.{inl, inr, arith}
use Rattle.std.proofs.lemmas.Bool.{cases_eq, cases_lt}
use Rattle.std.proofs.lemmas.Nat.{div-mul-add, mod-mul-add, mul-add-lt, div-add-mod'}
use Rattle.hall_grid.specs.declared.board.Size.{Size}
use Rattle.hall_grid.specs.Board.{cells, row, col}
use Rattle.hall_sudoku.specs.Values.{Has}
use Rattle.hall_sudoku.specs.Units.{IsDivision}
use Rattle.hall_sudoku.specs.Candidates.{AreSeen, AreShared}
use Rattle.hall_sudoku.specs.Parts.{part_of, AreGathered, AreConfined, IsElsewhere}
use Rattle.hall_sudoku.proofs.Sizes.{IsSquare, row_unit}
use Rattle.hall_sudoku.proofs.Tables.{set_has, shared_of, read_has}

module _ (size : Size) (unit other : ℕ → ℕ) (candidates : List ℕ) where
  -- one more cell is gathered: y is the set of its part with what it may have
  pub gathered_more : (n y : ℕ) (parts : List ℕ) → AreGathered size unit other n candidates parts
      → part_of size unit other n < length parts
      → ((v : ℕ) → Has y v ↔ (Has (get_or parts (part_of size unit other n) 0) v ⊎ Has (get_or candidates n 0) v))
      → AreGathered size unit other (n + 1) candidates (set parts (part_of size unit other n) y)
  gathered_more n y parts below small made cell v lt h =
      set_has parts (part_of size unit other n) y (part_of size unit other cell) v small
      (λ same. elim (cases_eq cell n) [
        | inl e ↦ (made v).1 (inr (subst (λ c. Has (get_or candidates c 0) v) e h))
        | inr ne ↦ (made v).1 (inl (subst (λ k. Has (get_or parts k 0) v) same (below cell v (omega arith) h)))
      ])
      (λ apart. elim (cases_eq cell n) [
        | inl e ↦ absurd (apart (ap (λ c. unit c * size.cols + other c) e))
        | inr ne ↦ below cell v (omega arith) h
      ])

  module _ (square : IsSquare size) (unit_small : (cell : ℕ) → cell < cells size → unit cell < size.cols)
      (other_small : (cell : ℕ) → cell < cells size → other cell < size.cols) where
    -- a value of a part that no other part of its unit has is confined to it
    pub confined_from : (parts shared rows confined : List ℕ) → IsDivision size (row size) rows
        → AreGathered size unit other (cells size) candidates parts → AreShared (λ c. get_or rows c 0) (length rows)
        parts shared
        → ((part : ℕ) → part < cells size → (v : ℕ) → Has (get_or confined part 0) v → Has (get_or parts part 0) v
        × (Has (get_or shared (row size part) 0) v → ⊥)) → AreConfined size unit other candidates confined
    confined_from parts shared rows confined division gathered sh alone part cell v within has inside same_row may =
        let q = unit cell * size.cols + other cell in
        let whole = shared_of size (row size) rows division parts shared sh in
        let there : Has (get_or parts q 0) v = gathered cell v inside may in
        let own = alone part within v has in
        let row_is : q / size.cols ≡ unit cell = div-mul-add (unit cell) size.cols (other cell)
        (other_small cell inside) in
        let q_small : q < cells size = omega (
          arith,
          mul-add-lt (unit cell) size.cols (other cell) size.rows
              (omega (arith, unit_small cell inside, square.square)) (other_small cell inside),
        ) in
        elim (cases_eq q part) [
          | inl e ↦ sym (mod-mul-add (unit cell) size.cols (other cell) (other_small cell inside))
              ∙ ap (λ x. x % size.cols) e
          | inr ne ↦ absurd (elim (cases_lt q part) [
            | inl lt ↦ own.1 (subst (λ k. Has (get_or shared k 0) v) (row_is ∙ same_row)
                (whole.all q part v lt within (row_is ∙ same_row) there own.0))
            | inr ge ↦ own.1 (whole.all part q v (omega arith) q_small (sym (row_is ∙ same_row)) own.0 there)
          ])
        ]

    -- what some part of the cell's other unit has alone, and not the cell's own part, is confined elsewhere
    pub elsewhere_from : (confined claimed columns : List ℕ) (cell v : ℕ) → IsDivision size (col size) columns
        → AreConfined size unit other candidates confined → AreSeen (λ c. get_or columns c 0) (length columns) confined
        claimed
        → cell < cells size → Has (get_or claimed (other cell) 0) v
        → (Has (get_or confined (part_of size unit other cell) 0) v → ⊥)
        → IsElsewhere size unit other candidates cell v
    elsewhere_from confined claimed columns cell v division are seen inside has lacks =
        let s = seen.alone (other cell) v has in
        let within : s.cell < cells size = omega (arith, s.before, division.exact) in
        let col_is : col size s.cell ≡ other cell = sym (division.units_are s.cell within) ∙ s.unit_is in
        record {
          at = row size s.cell;
          small = (row_unit size square).small s.cell within;
          differs = λ e.
              let same : s.cell ≡ unit cell * size.cols + other cell = sym (div-add-mod' s.cell size.cols)
              ∙ ap (λ x. x * size.cols + s.cell % size.cols) e ∙ ap (λ x. unit cell * size.cols + x) col_is in
              lacks (subst (λ k. Has (get_or confined k 0) v) same s.has);
          confined = λ c small e may. are s.cell c v within s.has small e may ∙ col_is;
        }

-- y: what is read at i of xs without what is read at j of ys
pub without_both : (xs ys : List ℕ) (i j a b y : ℕ) → i < length xs → j < length ys
    → ((v : ℕ) → Has y v ↔ (Has (get_or xs i a) v × (Has (get_or ys j b) v → ⊥))) → (v : ℕ) → Has y v
    → Has (get_or xs i 0) v × (Has (get_or ys j 0) v → ⊥)
without_both xs ys i j a b y li lj made v h =
    let both = (made v).0 h in
    ((read_has xs i a v li).0 both.0, λ k. both.1 ((read_has ys j b v lj).1 k))
