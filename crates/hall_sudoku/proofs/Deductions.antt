-- What the sets of candidates say of every solution.
use Rattle.std.proofs.Common.{◌≡◌, ◌≢◌, ◌↔◌, ℕ, ◌+◌, ◌*◌, ◌<◌, List, Option, Some, None, length, get_or, refl, sym, ◌∙◌}
use Rattle.std.proofs.Common.{ap, subst, inl, inr, arith}
use Rattle.std.proofs.lemmas.Bool.{cases_eq, cases_lt}
use Rattle.hall_grid.specs.declared.board.Size.{Size}
use Rattle.hall_grid.specs.Board.{cells, row, col}
use Rattle.hall_grid.specs.Sudoku.{box, Repeats}
use Rattle.hall_solve.specs.Question.{Solves, IsPartial}
use Rattle.hall_solve.specs.Deduction.{HasAlways}
use Rattle.hall_sudoku.specs.Values.{Has}
use Rattle.hall_sudoku.specs.Units.{units_question}
use Rattle.hall_sudoku.specs.declared.singles.Shared.{Shared}
use Rattle.hall_sudoku.specs.declared.candidates.Taken.{Taken}
use Rattle.hall_sudoku.specs.Settled.{StandsIn, Clashes}
use Rattle.hall_sudoku.specs.Candidates.{IsLeft, AreCandidates, AreShared, AreAllShared, IsMissing, IsSole, AreAllTaken}
use Rattle.hall_sudoku.proofs.Sizes.{IsUnit, IsSquare, row_unit, column_unit, box_unit, box_cell}
use Rattle.hall_sudoku.proofs.Pigeons.{no_value_missing}

-- unit: one of the three ways to divide the board. at: the cells of a unit
module _ (size : Size) (unit : ℕ → ℕ) (at : ℕ → ℕ → ℕ) (u : IsUnit size unit at) (p : List (Option ℕ))
    (exact : length p ≡ cells size) (f : List ℕ) (s : Solves (units_question size) p f) (once : Repeats size unit f → ⊥)
  where
    -- cells of one unit have different values
    pub differ : (a b : ℕ) → a < cells size → b < cells size → a ≢ b → unit a ≡ unit b → get_or f a 0 ≢ get_or f b 0
    differ a b ha hb ne e same = once (a, b, ha, hb, ne, e, same)

    -- a value that stands in the unit of an open cell isn't the cell's
    pub not_taken : (cell v : ℕ) → cell < cells size → get_or p cell None ≡ None → StandsIn unit p (unit cell) v
        → get_or f cell 0 ≢ v
    not_taken cell v within unset seen e =
        elim (cases_eq cell seen.cell) [
          | inl same ↦ (let clash : None ≡ Some v = sym unset ∙ ap (λ c. get_or p c None) same ∙ seen.value_is in cc)
          | inr ne ↦ differ cell seen.cell within (omega (arith, seen.within, exact)) ne (sym seen.unit_is)
              (e ∙ sym (s.extends seen.cell v seen.value_is))
        ]

    -- no two cells of a unit clash
    pub no_clash : Clashes unit p → ⊥
    no_clash h =
        let ne : h.cell ≢ h.other.cell = (λ e. omega (arith, h.before, e)) in
        differ h.cell h.other.cell (omega (arith, h.within, exact)) (omega (arith, h.other.within, exact)) ne
        (sym h.other.unit_is) (s.extends h.cell h.value h.value_is
        ∙ sym (s.extends h.other.cell h.value h.other.value_is))

    -- each value stands somewhere in each unit
    pub stands : (a v : ℕ) → a < size.cols → v < size.cols → ((cell : ℕ) → cell < cells size → unit cell ≡ a
        → get_or f cell 0 ≢ v) → ⊥
    stands a v ha hv nowhere =
        no_value_missing size.cols (λ k. get_or f (at a k) 0)
        (λ k hk. s.filling.in_range (at a k) (u.within a k ha hk))
        (λ j k lt hk e. once (
          at a j,
          at a k,
          u.within a j ha (omega arith),
          u.within a k ha hk,
          u.apart a j k ha lt hk,
          u.there a j ha (omega arith) ∙ sym (u.there a k ha hk),
          e,
        ))
        v hv
        (λ k hk. nowhere (at a k) (u.within a k ha hk) (u.there a k ha hk))

    module _ (candidates : List ℕ) (holds : AreCandidates size p candidates) where
      theirs : (cell : ℕ) → cell < cells size → Has (get_or candidates cell 0) (get_or f cell 0)
      theirs cell within = (holds cell within).holds f s

      -- a unit where no cell may have a value
      pub none_missing : IsMissing unit (cells size) candidates size.cols → ⊥
      none_missing h =
          stands h.at h.value h.at_small h.value_small (λ cell within e is_v. h.nowhere cell within e
          (subst (λ x. Has (get_or candidates cell 0) x) is_v (theirs cell within)))

      -- a value that one cell of a unit alone may have is the cell's
      pub alone : (shared : List ℕ) → AreShared unit (cells size) candidates shared → (cell v : ℕ) → cell < cells size
          → Has (get_or candidates cell 0) v → (Has (get_or shared (unit cell) 0) v → ⊥) → get_or f cell 0 ≡ v
      alone shared sh cell v within may one =
          elim (cases_eq (get_or f cell 0) v) [
            | inl e ↦ e
            | inr ne ↦ absurd (stands (unit cell) v (u.small cell within) ((holds cell within).in_range v may)
                (λ other h e is_v.
                let there : Has (get_or candidates other 0) v = subst (λ x. Has (get_or candidates other 0) x) is_v
                (theirs other h) in
                elim (cases_lt other cell) [
                  | inl lt ↦ one (subst (λ x. Has (get_or shared x 0) v) e (sh.all other cell v lt within e there may))
                  | inr ge ↦ elim (cases_eq other cell) [
                    | inl same ↦ ne (ap (λ c. get_or f c 0) (sym same) ∙ is_v)
                    | inr no_same ↦ one (sh.all cell other v (omega arith) h (sym e) may there)
                  ]
                ]))
          ]

-- what follows at a cell is so in every solution
pub sole_always : (size : Size) (p : List (Option ℕ)) (candidates : List ℕ) (shared : Shared) (cell v : ℕ)
    → IsSquare size → length p ≡ cells size → AreCandidates size p candidates → AreAllShared size candidates shared
    → cell < cells size → IsSole size candidates shared cell v → HasAlways (units_question size) p cell v
sole_always size p candidates shared cell v sq exact holds sh within h f s =
    elim h.sole [
      | inl only ↦ only (get_or f cell 0) ((holds cell within).holds f s)
      | inr k ↦ elim k [
        | inl one ↦ alone size (row size) (λ u k. u * size.cols + k) (row_unit size sq) p exact f s s.right.rows
            candidates holds shared.rows sh.rows cell v within h.may one
        | inr m ↦ elim m [
          | inl one ↦ alone size (col size) (λ u k. k * size.cols + u) (column_unit size sq) p exact f s s.right.columns
              candidates holds shared.columns sh.columns cell v within h.may one
          | inr one ↦ alone size (box size) (box_cell size) (box_unit size sq) p exact f s s.right.boxes candidates
              holds shared.boxes sh.boxes cell v within h.may one
        ]
      ]
    ]

-- what is left to an open cell: the values below the side that stand in none of its units
pub left_open : (size : Size) (p : List (Option ℕ)) (taken : Taken) (cell : ℕ) → IsSquare size
    → IsPartial (units_question size) p → AreAllTaken size p taken → cell < cells size → get_or p cell None ≡ None
    → (all a b left : ℕ) → ((v : ℕ) → Has all v ↔ (v < size.cols))
    → ((v : ℕ) → Has a v ↔ (Has all v × (Has (get_or taken.rows (row size cell) 0) v → ⊥)))
    → ((v : ℕ) → Has b v ↔ (Has a v × (Has (get_or taken.columns (col size cell) 0) v → ⊥)))
    → ((v : ℕ) → Has left v ↔ (Has b v × (Has (get_or taken.boxes (box size cell) 0) v → ⊥))) → IsLeft size p cell left
left_open size p taken cell sq whole t within unset all a b left e_all e_a e_b e_left = record {
  in_range = λ v h. (e_all v).0 ((e_a v).0 ((e_b v).0 ((e_left v).0 h).0).0).0;
  holds = λ f s.
      let v = get_or f cell 0 in
      (e_left v).1 (
        (e_b v).1 (
          (e_a v).1 (
            (e_all v).1 (s.filling.in_range cell within),
            λ h. not_taken size (row size) (λ u k. u * size.cols + k) (row_unit size sq) p whole.size f s s.right.rows
                cell v within unset ((t.rows (row size cell) v).0 h) refl,
          ),
          λ h. not_taken size (col size) (λ u k. k * size.cols + u) (column_unit size sq) p whole.size f s
              s.right.columns cell v within unset ((t.columns (col size cell) v).0 h) refl,
        ),
        λ h. not_taken size (box size) (box_cell size) (box_unit size sq) p whole.size f s s.right.boxes cell v within
            unset ((t.boxes (box size cell) v).0 h) refl,
      );
  set = λ w e. let clash : None ≡ Some w = sym unset ∙ e in cc;
  unset = λ is_open v h.
      let in_b = (e_left v).0 h in
      let in_a = (e_b v).0 in_b.0 in
      let in_all = (e_a v).0 in_a.0 in
      record {
        unset = is_open;
        in_range = (e_all v).0 in_all.0;
        row = λ s. in_all.1 ((t.rows (row size cell) v).1 s);
        column = λ s. in_a.1 ((t.columns (col size cell) v).1 s);
        box = λ s. in_b.1 ((t.boxes (box size cell) v).1 s);
      };
}

-- what is left to a cell that is set: its value
pub left_set : (size : Size) (p : List (Option ℕ)) (cell w left : ℕ) → IsPartial (units_question size) p
    → get_or p cell None ≡ Some w → ((v : ℕ) → Has left v ↔ (v ≡ w)) → IsLeft size p cell left
left_set size p cell w left whole at e = record {
  in_range = λ v h. subst (λ x. x < size.cols) (sym ((e v).0 h)) (whole.in_range cell w at);
  holds = λ f s. (e (get_or f cell 0)).1 (s.extends cell w at);
  set = λ x at_x v h. let two : Some w ≡ Some x = sym at ∙ at_x in let is_x : w ≡ x = cc in (e v).0 h ∙ is_x;
  unset = λ is_open. let clash : None ≡ Some w = sym is_open.1 ∙ at in cc;
}
