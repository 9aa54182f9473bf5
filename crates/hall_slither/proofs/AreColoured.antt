-- What sides and colours tell of each other.
use Rattle.std.proofs.Common.{◌≡◌, ◌<◌, ◌+◌, ◌∙◌, ℕ, Bool, true, false, cond, eqb, List, length, get_or, Option, Some}
use Rattle.std.proofs.Common.{None, refl, sym, subst, inl, inr, arith}
use Rattle.std.specs.Prelude.{slice_index}
use Rattle.std.proofs.lemmas.Bool.{cases_eq, eq-eqb, eqb-true}
use Rattle.hall_grid.specs.Board.{Board, IsBoard, cells}
use Rattle.hall_grid.specs.declared.board.Kind.TheVariants.{Slither}
use Rattle.hall_grid.specs.Slither.{all_sides, is_line}
use Rattle.hall_solve.specs.Question.{Solves, Keeps, IsHopeless, IsOpen}
use Rattle.hall_solve.specs.Deduction.{IsForced}
use Rattle.hall_solve.specs.Puzzle.{question_of}
use Rattle.hall_solve.proofs.Boards.{Solves-keeps}
use Rattle.hall_slither.specs.declared.colour.Link.{Link}
use Rattle.hall_slither.specs.Colour.{turned, colour_of, cells_by, Obeys, AreTurned, AreColoured}
use Rattle.hall_slither.proofs.Crossing.{crossing}
use Rattle.hall_slither.proofs.IsLayout.{size_of_board}

-- the colours are known still when more is set
pub AreColoured-keeps : (board : Board) (old new : List (Option ℕ)) (links : List Link) → Keeps old new
    → AreColoured board old links → AreColoured board new links
AreColoured-keeps board old new links keeps known = record {
  exact = known.exact;
  obeyed = λ f s. known.obeyed f (Solves-keeps (question_of Slither board) old new f keeps s);
}

-- colours of which nothing is known
pub AreColoured-free : (board : Board) (p : List (Option ℕ)) (links : List Link) → length links ≡ cells board.size + 1
    → ((colour : ℕ → Bool) → Obeys links colour)
    → AreColoured board p links
AreColoured-free board p links exact free = record { exact = exact; obeyed = λ f s. free (colour_of board.size f) }

-- more is known
pub AreColoured-more : (board : Board) (p : List (Option ℕ)) (old new : List Link) (differs : Bool) (a b : ℕ)
    → length new ≡ length old
    → ((colour : ℕ → Bool) → Obeys old colour → AreTurned differs a b colour → Obeys new colour)
    → ((f : List ℕ) → Solves (question_of Slither board) p f → AreTurned differs a b (colour_of board.size f))
    → AreColoured board p old → AreColoured board p new
AreColoured-more board p old new differs a b same learned told known = record {
  exact = same ∙ known.exact;
  obeyed = λ f s. learned (colour_of board.size f) (known.obeyed f s) (told f s);
}

-- what is learned contradicts what is known
pub hopeless_contradicted : (board : Board) (p : List (Option ℕ)) (old : List Link) (differs : Bool) (a b : ℕ)
    → ((colour : ℕ → Bool) → Obeys old colour → AreTurned differs a b colour → ⊥)
    → ((f : List ℕ) → Solves (question_of Slither board) p f → AreTurned differs a b (colour_of board.size f))
    → AreColoured board p old → IsHopeless (question_of Slither board) p
hopeless_contradicted board p old differs a b contradicted told known = λ f s. contradicted (colour_of board.size f)
    (known.obeyed f s) (told f s)

-- a set side tells whether the colours of its cells differ
pub told_by_side : (board : Board) (p : List (Option ℕ)) (f : List ℕ) (side v : ℕ) → board.kind ≡ Slither
    → IsBoard board → side < all_sides board.size
    → get_or p side None ≡ Some v → Solves (question_of Slither board) p f
    → AreTurned (eqb v 1) (cells_by board.size side).0 (cells_by board.size side).1 (colour_of board.size f)
told_by_side board p f side v kind is_board low is s =
    let same : slice_index f side ≡ v = s.extends side v is in
    subst (λ x. colour_of board.size f (cells_by board.size side).0 ≡ turned (eqb x 1)
    (colour_of board.size f (cells_by board.size side).1)) same
    (crossing board f side kind (size_of_board board kind is_board) s.right low)

-- a set side is learned
pub AreColoured-learned : (board : Board) (p : List (Option ℕ)) (old new : List Link) (side v a b : ℕ)
    → board.kind ≡ Slither → IsBoard board → side < all_sides board.size
    → get_or p side None ≡ Some v → (a, b) ≡ cells_by board.size side → length new ≡ length old
    → ((colour : ℕ → Bool) → Obeys old colour → AreTurned (eqb v 1) a b colour → Obeys new colour)
    → AreColoured board p old → AreColoured board p new
AreColoured-learned board p old new side v a b kind is_board low is at same learned known =
    AreColoured-more board p old new (eqb v 1) a b same learned
    (λ f s. subst (λ (x : ℕ × ℕ). AreTurned (eqb v 1) x.0 x.1 (colour_of board.size f)) (sym at)
    (told_by_side board p f side v kind is_board low is s)) known

pub hopeless_learned : (board : Board) (p : List (Option ℕ)) (old : List Link) (side v a b : ℕ) → board.kind ≡ Slither
    → IsBoard board → side < all_sides board.size
    → get_or p side None ≡ Some v → (a, b) ≡ cells_by board.size side
    → ((colour : ℕ → Bool) → Obeys old colour → AreTurned (eqb v 1) a b colour → ⊥) → AreColoured board p old
    → IsHopeless (question_of Slither board) p
hopeless_learned board p old side v a b kind is_board low is at contradicted known =
    hopeless_contradicted board p old (eqb v 1) a b contradicted
    (λ f s. subst (λ (x : ℕ × ℕ). AreTurned (eqb v 1) x.0 x.1 (colour_of board.size f)) (sym at)
    (told_by_side board p f side v kind is_board low is s)) known

one_turned : (a b : Bool) (c : Bool) → turned a c ≡ turned b c → a ≡ b
one_turned true true c e = refl
one_turned false false c e = refl
one_turned true false true e = (cc)
one_turned true false false e = (cc)
one_turned false true true e = (cc)
one_turned false true false e = (cc)

value_of : (n : ℕ) (b : Bool) → n < 2 → eqb n 1 ≡ b → n ≡ cond b 1 0
value_of n true small e = eqb-true n 1 e
value_of n false small e = elim (cases_eq n 1) [
  | inl is ↦ absurd (let yes = eq-eqb n 1 is in cc)
  | inr ne ↦ omega arith
]

-- what the colours of its cells tell, each solution has at the side
pub side_by_colours : (board : Board) (p : List (Option ℕ)) (links : List Link) (f : List ℕ) (side : ℕ) (differs : Bool)
    → board.kind ≡ Slither → IsBoard board
    → side < all_sides board.size → ((colour : ℕ → Bool) → Obeys links colour
    → AreTurned differs (cells_by board.size side).0 (cells_by board.size side).1 colour)
    → AreColoured board p links → Solves (question_of Slither board) p f → slice_index f side ≡ cond differs 1 0
side_by_colours board p links f side differs kind is_board low told known s =
    let line : turned (is_line f side) (colour_of board.size f (cells_by board.size side).1) ≡ turned differs
    (colour_of board.size f (cells_by board.size side).1) =
    sym (crossing board f side kind (size_of_board board kind is_board) s.right low)
    ∙ told (colour_of board.size f) (known.obeyed f s) in
    value_of (slice_index f side) differs (s.filling.in_range side low)
    (one_turned (is_line f side) differs (colour_of board.size f (cells_by board.size side).1) line)

small_cond : (b : Bool) → cond b 1 0 < 2
small_cond true = omega arith
small_cond false = omega arith

-- an open side whose value the colours tell
pub forced_by_colours : (board : Board) (p : List (Option ℕ)) (links : List Link) (side a b value : ℕ) (differs : Bool)
    → board.kind ≡ Slither → IsBoard board
    → side < all_sides board.size → IsOpen p side → (a, b) ≡ cells_by board.size side
    → ((colour : ℕ → Bool) → Obeys links colour → AreTurned differs a b colour)
    → AreColoured board p links → value ≡ cond differs 1 0 → IsForced (question_of Slither board) p side value
forced_by_colours board p links side a b value differs kind is_board low unset at told known is = record {
  unset = unset;
  in_range = let small = small_cond differs in omega arith;
  forced = λ f s. side_by_colours board p links f side differs kind is_board low
      (λ colour obeys. subst (λ (x : ℕ × ℕ). AreTurned differs x.0 x.1 colour) at (told colour obeys)) known s ∙ sym is;
}
