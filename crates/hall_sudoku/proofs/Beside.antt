-- Two values that two cells of a unit alone may have.
use Rattle.std.proofs.Common.{◌≡◌, ◌≢◌, ◌⊎◌, ◌↔◌, ℕ, ◌+◌, ◌<◌, ◌≤◌, List, Option, length, get_or, set, take, sym, ◌∙◌}
use Rattle.std.proofs.Common.{ap, subst, inl, inr, arith}
use Rattle.std.proofs.lemmas.Bool.{cases_eq, cases_lt}
use Rattle.std.proofs.lemmas.List.{get_or-take, length-take-le}
use Rattle.hall_grid.specs.declared.board.Size.{Size}
use Rattle.hall_grid.specs.Board.{cells}
use Rattle.hall_grid.specs.Sudoku.{Repeats}
use Rattle.hall_solve.specs.Question.{Solves}
use Rattle.hall_sudoku.specs.Values.{Has, HasTwo}
use Rattle.hall_sudoku.specs.Units.{units_question, IsDivision, RepeatsNothing}
use Rattle.hall_sudoku.specs.Candidates.{AreCandidates, AreShared}
use Rattle.hall_sudoku.specs.Parts.{AreOut}
use Rattle.hall_sudoku.specs.Pairs.{HaveThrice, IsTheirs, IsBesidePair, AreBesidePairs}
use Rattle.hall_sudoku.proofs.Sizes.{IsUnit}
use Rattle.hall_sudoku.proofs.Deductions.{stands}
use Rattle.hall_sudoku.proofs.Tables.{set_has, has_set}

-- one more cell: y is the set of its unit with what it may have and two cells before it
pub thrice_more : (unit : ℕ → ℕ) (n y : ℕ) (candidates shared thrice : List ℕ) → HaveThrice unit n candidates thrice
    → AreShared unit n candidates shared → unit n < length thrice
    → ((v : ℕ) → Has y v ↔ (Has (get_or thrice (unit n) 0) v
    ⊎ (Has (get_or shared (unit n) 0) v × Has (get_or candidates n 0) v)))
    → HaveThrice unit (n + 1) candidates (set thrice (unit n) y)
thrice_more unit n y candidates shared thrice below was small made a b c v ab bc lt e f ha hb hc =
    elim (cases_eq c n) [
      | inl same ↦
          let in_unit : unit a ≡ unit n = f ∙ ap unit same in
          set_has thrice (unit n) y (unit a) v small
          (λ _. (made v).1 (inr (
            subst (λ x. Has (get_or shared x 0) v) in_unit
                (was.all a b v ab (omega arith) e ha hb),
            subst (λ x. Has (get_or candidates x 0) v) same hc,
          )))
          (λ ne. absurd (ne in_unit))
      | inr ne ↦
          let there : Has (get_or thrice (unit a) 0) v = below a b c v ab bc (omega arith) e f ha hb hc in
          set_has thrice (unit n) y (unit a) v small (λ same. (made v).1
          (inl (subst (λ x. Has (get_or thrice x 0) v) same there))) (λ _. there)
    ]

-- three different cells, in whatever order
pub thrice_apart : (unit : ℕ → ℕ) (n : ℕ) (candidates thrice : List ℕ) → HaveThrice unit n candidates thrice
    → (a b c v : ℕ) → a ≢ b → a ≢ c → b ≢ c → a < n → b < n → c < n → unit b ≡ unit a → unit c ≡ unit a
    → Has (get_or candidates a 0) v → Has (get_or candidates b 0) v → Has (get_or candidates c 0) v
    → Has (get_or thrice (unit a) 0) v
thrice_apart unit n candidates thrice have a b c v ab ac bc la lb lc eb ec ha hb hc =
    elim (cases_lt a b) [
      | inl a_b ↦ elim (cases_lt b c) [
        | inl b_c ↦ have a b c v a_b b_c lc (sym eb) (sym ec) ha hb hc
        | inr c_b ↦ elim (cases_lt a c) [
          | inl a_c ↦ have a c b v a_c (omega arith) lb (sym ec) (sym eb) ha hc hb
          | inr c_a ↦ subst (λ k. Has (get_or thrice k 0) v) ec
              (have c a b v (omega arith) a_b lb ec (ec ∙ sym eb) hc ha hb)
        ]
      ]
      | inr b_a ↦ elim (cases_lt a c) [
        | inl a_c ↦ subst (λ k. Has (get_or thrice k 0) v) eb
            (have b a c v (omega arith) a_c lc eb (eb ∙ sym ec) hb ha hc)
        | inr c_a ↦ elim (cases_lt b c) [
          | inl b_c ↦ subst (λ k. Has (get_or thrice k 0) v) eb
              (have b c a v b_c (omega arith) la (eb ∙ sym ec) eb hb hc ha)
          | inr c_b ↦ subst (λ k. Has (get_or thrice k 0) v) ec
              (have c b a v (omega arith) (omega arith) la (ec ∙ sym eb) ec hc hb ha)
        ]
      ]
    ]

-- what is not of a pair is beside it. pair: two values at least that the cell and the other may have, and no three
-- cells
pub beside_from : (unit : ℕ → ℕ) (n : ℕ) (candidates thrice : List ℕ) → HaveThrice unit n candidates thrice
    → (cell other pair : ℕ) → cell < n → other < n → other ≢ cell → unit other ≡ unit cell → HasTwo pair
    → ((v : ℕ) → Has pair v → Has (get_or candidates cell 0) v × (Has (get_or thrice (unit cell) 0) v → ⊥)
    × Has (get_or candidates other 0) v) → (v : ℕ) → (Has pair v → ⊥) → IsBesidePair unit n candidates cell v
beside_from unit n candidates thrice have cell other pair lc lo ne e two theirs v not_theirs =
    let alone : (w : ℕ) → Has pair w → IsTheirs unit n candidates cell other w = (λ w h c lt u may.
    elim (cases_eq c cell) [
      | inl same ↦ inl same
      | inr no_cell ↦ elim (cases_eq c other) [
        | inl same ↦ inr same
        | inr no_other ↦ absurd ((theirs w h).1 (thrice_apart unit n candidates thrice have cell other c w
            (λ q. ne (sym q)) (λ q. no_cell (sym q)) (λ q. no_other (sym q)) lc lo lt e u (theirs w h).0 (theirs w h).2
            may))
      ]
    ]) in
    record {
      other = other;
      first = two.first;
      second = two.second;
      differ = two.differ;
      has_first = (theirs two.first two.has_first).0;
      has_second = (theirs two.second two.has_second).0;
      their_first = alone two.first two.has_first;
      their_second = alone two.second two.has_second;
      not_first = λ q. not_theirs (subst (λ x. Has pair x) (sym q) two.has_first);
      not_second = λ q. not_theirs (subst (λ x. Has pair x) (sym q) two.has_second);
    }

-- a value beside a pair is not the cell's
pub never_beside : (size : Size) (unit : ℕ → ℕ) (at : ℕ → ℕ → ℕ) → IsUnit size unit at → (p : List (Option ℕ))
    → length p ≡ cells size → (candidates : List ℕ) → AreCandidates size p candidates
    → (f : List ℕ) → Solves (units_question size) p f → (Repeats size unit f → ⊥) → (cell v : ℕ) → cell < cells size
    → IsBesidePair unit (cells size) candidates cell v → get_or f cell 0 ≢ v
never_beside size unit at u p exact candidates are f s once cell v within h same =
    let other_has : (w : ℕ) → Has (get_or candidates cell 0) w → IsTheirs unit (cells size) candidates cell h.other w
    → v ≢ w → get_or f h.other 0 ≢ w → ⊥ = (λ w has theirs ne away.
    stands size unit at u p exact f s once (unit cell) w (u.small cell within) ((are cell within).in_range w has)
    (λ c inside unit_is is_w.
    let may : Has (get_or candidates c 0) w = subst (λ x. Has (get_or candidates c 0) x) is_w
    ((are c inside).holds f s) in
    elim (theirs c inside unit_is may) [
      | inl e ↦ ne (sym same ∙ ap (λ k. get_or f k 0) (sym e) ∙ is_w)
      | inr e ↦ away (ap (λ k. get_or f k 0) (sym e) ∙ is_w)
    ])) in
    other_has h.first h.has_first h.their_first h.not_first (λ is_first. other_has h.second h.has_second h.their_second
    h.not_second (λ is_second. h.differ (sym is_first ∙ is_second)))

-- what a table's units say is what the units say
pub beside_of : (size : Size) (unit : ℕ → ℕ) (units : List ℕ) → IsDivision size unit units
    → (candidates : List ℕ) (cell v : ℕ) → cell < cells size → IsBesidePair (λ c. get_or units c 0) (length units)
    candidates cell v → IsBesidePair unit (cells size) candidates cell v
beside_of size unit units d candidates cell v within h = record {
  other = h.other;
  first = h.first;
  second = h.second;
  differ = h.differ;
  has_first = h.has_first;
  has_second = h.has_second;
  their_first = λ c lt e may. h.their_first c (omega (arith, lt, d.exact))
      (d.units_are c lt ∙ e ∙ sym (d.units_are cell within)) may;
  their_second = λ c lt e may. h.their_second c (omega (arith, lt, d.exact))
      (d.units_are c lt ∙ e ∙ sym (d.units_are cell within)) may;
  not_first = h.not_first;
  not_second = h.not_second;
}

-- what is beside a pair is in no solution
pub out_by_pairs : (size : Size) (unit : ℕ → ℕ) (at : ℕ → ℕ → ℕ) → IsUnit size unit at → (p : List (Option ℕ))
    → length p ≡ cells size → (candidates : List ℕ) → AreCandidates size p candidates
    → ((f : List ℕ) → RepeatsNothing size f → Repeats size unit f → ⊥) → (units out : List ℕ)
    → IsDivision size unit units → AreBesidePairs (λ c. get_or units c 0) (length units) candidates out
    → AreOut size p out
out_by_pairs size unit at u p exact candidates are once units out d beside cell v within h f s =
    never_beside size unit at u p exact candidates are f s (once f s.right) cell v within
    (beside_of size unit units d candidates cell v within (beside cell v (omega (arith, within, d.exact)) h))

-- the first cells of a list that are below n
pub first_below : (xs : List ℕ) (count n : ℕ) → ((k : ℕ) → k < count → get_or xs k 0 < n) → count ≤ length xs → (k : ℕ)
    → k < length (take count xs) → get_or (take count xs) k 0 < n
first_below xs count n below within k lt =
    let small : k < count = omega (arith, lt, length-take-le count xs within) in
    rw (get_or-take count xs k 0 small) (below k small)

-- one more cell's set is written
pub beside_set : (unit : ℕ → ℕ) (n : ℕ) (candidates out : List ℕ) (at y : ℕ) → AreBesidePairs unit n candidates out
    → at < length out → ((v : ℕ) → Has y v → IsBesidePair unit n candidates at v)
    → AreBesidePairs unit n candidates (set out at y)
beside_set unit n candidates out at y below small here cell v lt h =
    elim (has_set out at y cell v small h) [
      | inl both ↦ subst (λ x. IsBesidePair unit n candidates x v) (sym both.0) (here v both.1)
      | inr both ↦ below cell v lt both.1
    ]
