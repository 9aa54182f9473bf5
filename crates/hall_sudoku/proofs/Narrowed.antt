-- Sets of candidates from which values are taken out.
use Rattle.std.proofs.Common.{◌≡◌, ◌≢◌, ◌↔◌, ℕ, ◌<◌, List, Option, length, get_or, set, refl, sym, ◌∙◌, ap, subst, inl}
use Rattle.std.proofs.Common.{inr}
use Rattle.std.proofs.lemmas.Bool.{cases_eq}
use Rattle.std.proofs.lemmas.List.{get_or-set_same, get_or-set_other}
use Rattle.hall_grid.specs.declared.board.Size.{Size}
use Rattle.hall_grid.specs.Board.{cells}
use Rattle.hall_grid.specs.Sudoku.{Repeats}
use Rattle.hall_solve.specs.Question.{Solves}
use Rattle.hall_sudoku.specs.Values.{Has}
use Rattle.hall_sudoku.specs.Units.{units_question, IsDivision, RepeatsNothing}
use Rattle.hall_sudoku.specs.Candidates.{IsLeft, AreCandidates}
use Rattle.hall_sudoku.specs.Parts.{IsElsewhere, AreElsewhere, AreOut}
use Rattle.hall_sudoku.proofs.Sizes.{IsUnit}
use Rattle.hall_sudoku.proofs.Deductions.{differ, stands}
use Rattle.hall_sudoku.proofs.Tables.{read_is, is_read}

-- one cell's set is written
pub candidates_set : (size : Size) (p : List (Option ℕ)) (candidates : List ℕ) (n y : ℕ)
    → AreCandidates size p candidates → n < length candidates → IsLeft size p n y
    → AreCandidates size p (set candidates n y)
candidates_set size p candidates n y are small here cell within =
    elim (cases_eq cell n) [
      | inl e ↦ subst (λ k. IsLeft size p k (get_or (set candidates n y) k 0)) (sym e)
          (subst (λ x. IsLeft size p n x) (sym (get_or-set_same candidates n y 0 small)) here)
      | inr ne ↦ subst (λ x. IsLeft size p cell x) (sym (get_or-set_other candidates n cell y 0 ne)) (are cell within)
    ]

-- what no solution has at the cell is taken out
pub left_without : (size : Size) (p : List (Option ℕ)) (out : List ℕ) (cell left y : ℕ) → AreOut size p out
    → cell < cells size → IsLeft size p cell left → ((v : ℕ) → Has y v ↔ (Has left v × (Has (get_or out cell 0) v → ⊥)))
    → IsLeft size p cell y
left_without size p out cell left y never within was made = record {
  in_range = λ v h. was.in_range v ((made v).0 h).0;
  holds = λ f s. (made (get_or f cell 0)).1 (was.holds f s, λ h. never cell (get_or f cell 0) within h f s refl);
  set = λ w at v h. was.set w at v ((made v).0 h).0;
  unset = λ is_open v h. was.unset is_open v ((made v).0 h).0;
}

-- a value that is confined elsewhere is not the cell's
pub never_elsewhere : (size : Size) (unit other : ℕ → ℕ) (at to : ℕ → ℕ → ℕ) → IsUnit size unit at
    → IsUnit size other to → (p : List (Option ℕ)) → length p ≡ cells size → (candidates : List ℕ)
    → AreCandidates size p candidates
    → (f : List ℕ) → Solves (units_question size) p f → (Repeats size unit f → ⊥) → (Repeats size other f → ⊥)
    → (cell v : ℕ) → cell < cells size → IsElsewhere size unit other candidates cell v → get_or f cell 0 ≢ v
never_elsewhere size unit other at to u w p exact candidates are f s once_unit once_other cell v within h same =
    stands size unit at u p exact f s once_unit h.at v h.small
    ((are cell within).in_range v (subst (λ x. Has (get_or candidates cell 0) x) same
    ((are cell within).holds f s)))
    (λ c inside unit_is is_v.
    let may : Has (get_or candidates c 0) v = subst (λ x. Has (get_or candidates c 0) x) is_v
    ((are c inside).holds f s) in
    let apart : c ≢ cell = (λ e. h.differs (sym unit_is ∙ ap unit e)) in
    differ size other to w p exact f s once_other c cell inside within apart (h.confined c inside unit_is may)
    (is_v ∙ sym same))

-- what a table's units say is what the units say
pub elsewhere_of : (size : Size) (unit other : ℕ → ℕ) (units others : List ℕ) → IsDivision size unit units
    → IsDivision size other others → (candidates : List ℕ) (cell v : ℕ) → cell < cells size
    → IsElsewhere size (λ c. get_or units c 0) (λ c. get_or others c 0) candidates cell v
    → IsElsewhere size unit other candidates cell v
elsewhere_of size unit other units others d e candidates cell v within h = record {
  at = h.at;
  small = h.small;
  differs = λ same. h.differs (same ∙ sym (d.units_are cell within));
  confined = λ c inside unit_is may. sym (e.units_are c inside) ∙ h.confined c inside (d.units_are c inside ∙ unit_is)
      may ∙ e.units_are cell within;
}

-- what is confined elsewhere is in no solution
pub out_by_parts : (size : Size) (unit other : ℕ → ℕ) (at to : ℕ → ℕ → ℕ) → IsUnit size unit at → IsUnit size other to
    → (p : List (Option ℕ)) → length p ≡ cells size → (candidates : List ℕ) → AreCandidates size p candidates
    → ((f : List ℕ) → RepeatsNothing size f → Repeats size unit f → ⊥)
    → ((f : List ℕ) → RepeatsNothing size f → Repeats size other f → ⊥)
    → (units others out : List ℕ) → IsDivision size unit units → IsDivision size other others
    → AreElsewhere size (λ c. get_or units c 0) (λ c. get_or others c 0) candidates out → AreOut size p out
out_by_parts size unit other at to u w p exact candidates are once_unit once_other units others out d e elsewhere cell v
    within h f s =
    never_elsewhere size unit other at to u w p exact candidates are f s (once_unit f s.right) (once_other f s.right)
    cell v within
    (elsewhere_of size unit other units others d e candidates cell v within (elsewhere cell v within h))

-- y: what is read at n of both lists, the first without the second
pub without_reads : (xs ys : List ℕ) (n a b y : ℕ) → n < length xs → n < length ys → a ≡ get_or xs n a
    → b ≡ get_or ys n b → ((v : ℕ) → Has y v ↔ (Has a v × (Has b v → ⊥))) → (v : ℕ) → Has y v
    ↔ (Has (get_or xs n 0) v × (Has (get_or ys n 0) v → ⊥))
without_reads xs ys n a b y lx ly ea eb made v = (
  (λ h. let both = (made v).0 h in (is_read xs n a v lx ea both.0, λ k. both.1 (read_is ys n b v ly eb k))),
  (λ h. (made v).1 (read_is xs n a v lx ea h.0, λ k. h.1 (is_read ys n b v ly eb k))),
)
