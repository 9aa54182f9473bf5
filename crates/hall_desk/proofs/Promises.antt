-- What follows from a sane world for entrants and directors.
use Rattle.std.proofs.Common.{◌≡◌, ◌<◌, ◌++◌, inl, inr, ℕ, List, [], ◌∷◌, length, map, take, drop, min, refl, sym, ap}
use Rattle.std.proofs.Common.{◌∙◌, subst, arith}
use Rattle.std.specs.Prelude.{All, IsTrue, ◌↔◌}
use Rattle.std.proofs.lemmas.Bool.{false≢true}
use Rattle.std.proofs.lemmas.List.{take-append-drop, length-map, length-take}
use Rattle.std.proofs.lemmas.List.Elements.{All-head, All-tail, All-take, All-drop}
use Rattle.hall_grid.specs.declared.board.Kind.{Kind}
use Rattle.hall_grid.specs.declared.board.Kind.TheVariants.{Sudoku, Slither, Nurikabe}
use Rattle.hall_grid.specs.declared.board.Size.{Size}
use Rattle.hall_grid.specs.declared.rule.Rule.TheVariants.{A0}
use Rattle.hall_grid.specs.Rule.{IsNameSet}
use Rattle.hall_grid.specs.Board.{Board}
use Rattle.hall_grid.specs.Slither.{flat_sides}
use Rattle.hall_grid.specs.Answer.{places_of, values_of, sudoku_byte, slither_byte, nurikabe_byte, text_of, AnswerText}
use Rattle.hall_grid.specs.Answer.{Breaks, Verdict}
use Rattle.hall_policy.specs.World.{World}
use Rattle.hall_policy.specs.declared.record.PuzzleRow.{PuzzleRow}
use Rattle.hall_policy.specs.declared.record.PuzzleState.{PuzzleState}
use Rattle.hall_policy.specs.declared.record.PuzzleState.TheVariants as state
use Rattle.hall_desk.specs.Sane.{Sane, IsTrueState}
use Rattle.hall_desk.specs.Judged.{is_solution, NamesNoRule}
use Rattle.hall_desk.specs.Promises.{HasUniqueSolutions, RightAnswersAreSolutions, VerdictsAreJudged}
use Rattle.hall_policy.proofs.Texts.{text_decides}

-- the first and the rest of one list
same_first : (x y : ℕ) (xs ys : List ℕ) → ◌≡◌ {A = List ℕ} (x ∷ xs) (y ∷ ys) → x ≡ y
same_first x y xs ys e = cc

same_rest : (x y : ℕ) (xs ys : List ℕ) → ◌≡◌ {A = List ℕ} (x ∷ xs) (y ∷ ys) → xs ≡ ys
same_rest x y xs ys e = cc

-- values that are written differently are written as one list only where they are one
same_values : (g : ℕ → ℕ) (bound : ℕ) → ((a b : ℕ) → a < bound → b < bound → g a ≡ g b → a ≡ b) → (xs ys : List ℕ)
    → All (λ v. v < bound) xs → All (λ v. v < bound) ys →
    map g xs ≡ map g ys → xs ≡ ys
same_values g bound apart [] [] few small e = refl
same_values g bound apart [] (y ∷ ys) few small e = let no : ◌≡◌ {A = List ℕ} [] (g y ∷ map g ys) = e in absurd (cc)
same_values g bound apart (x ∷ xs) [] few small e = let no : ◌≡◌ {A = List ℕ} (g x ∷ map g xs) [] = e in absurd (cc)
same_values g bound apart (x ∷ xs) (y ∷ ys) few small e =
    let head : x ≡ y = apart x y (All-head (λ v. v < bound) x xs few) (All-head (λ v. v < bound) y ys small)
    (same_first (g x) (g y) (map g xs) (map g ys) e) in
    let tail : xs ≡ ys = same_values g bound apart xs ys (All-tail (λ v. v < bound) x xs few)
    (All-tail (λ v. v < bound) y ys small) (same_rest (g x) (g y) (map g xs) (map g ys) e) in
    cc

-- what stands before and after a byte, where as much stands before it in both
same_parts : (a b c d : List ℕ) (x : ℕ) → length a ≡ length c → a ++ x ∷ b ≡ c ++ x ∷ d → (a ≡ c) × (b ≡ d)
same_parts [] b [] d x n e = (refl, same_rest x x b d e)
same_parts [] b (k ∷ c) d x n e = absurd (omega arith)
same_parts (h ∷ a) b [] d x n e = absurd (omega arith)
same_parts (h ∷ a) b (k ∷ c) d x n e =
    let head : h ≡ k = same_first h k (a ++ x ∷ b) (c ++ x ∷ d) e in
    let tail = same_parts a b c d x (omega arith) (same_rest h k (a ++ x ∷ b) (c ++ x ∷ d) e) in
    let first : a ≡ c = tail.0 in
    (cc, tail.1)

-- ---- each value has its own byte
one_number : (a b : ℕ) → sudoku_byte a ≡ sudoku_byte b → a ≡ b
one_number a b e = grind arith

one_line : (a b : ℕ) → slither_byte a ≡ slither_byte b → a ≡ b
one_line a b e = omega arith

one_shade : (a b : ℕ) → a < 2 → b < 2 → nurikabe_byte a ≡ nurikabe_byte b → a ≡ b
one_shade a b few small e = grind arith

-- a text says one filling
same_fillings : (kind : Kind) (size : Size) (f g : List ℕ) → length f ≡ places_of kind size
    → length g ≡ places_of kind size →
    All (λ v. v < values_of kind size) f → All (λ v. v < values_of kind size) g
    → text_of kind size f ≡ text_of kind size g → f ≡ g
same_fillings Sudoku size f g m n few small e = same_values sudoku_byte size.cols (λ a b _ _ same. one_number a b same)
    f g few small e
same_fillings Slither size f g m n few small e =
    let k = flat_sides size in
    let even : length (map slither_byte (take k f)) ≡ length (map slither_byte (take k g)) =
    length-map (take k f) slither_byte ∙ length-take k f ∙ ap (min k) (m ∙ sym n) ∙ sym (length-take k g)
    ∙ sym (length-map (take k g) slither_byte) in
    let parts = same_parts (map slither_byte (take k f)) (map slither_byte (drop k f)) (map slither_byte (take k g))
    (map slither_byte (drop k g)) 47 even e in
    let flat : take k f ≡ take k g = same_values slither_byte 2 (λ a b _ _ same. one_line a b same) (take k f)
    (take k g) (All-take (λ v. v < 2) k f few) (All-take (λ v. v < 2) k g small) parts.0 in
    let upright : drop k f ≡ drop k g = same_values slither_byte 2 (λ a b _ _ same. one_line a b same) (drop k f)
    (drop k g) (All-drop (λ v. v < 2) k f few) (All-drop (λ v. v < 2) k g small) parts.1 in
    sym (take-append-drop k f) ∙ ap (λ (xs : List ℕ). xs ++ drop k f) flat
    ∙ ap (λ (xs : List ℕ). take k g ++ xs) upright ∙ take-append-drop k g
same_fillings Nurikabe size f g m n few small e = same_values nurikabe_byte 2 one_shade f g few small e

pub one_filling : (board : Board) (text f g : List ℕ) → AnswerText board text f → AnswerText board text g → f ≡ g
one_filling board text f g a b =
    same_fillings board.kind board.size f g a.filling.exact b.filling.exact a.filling.ranges b.filling.ranges
    (sym a.written ∙ b.written)

-- ---- the promises
-- a released round's puzzles are in state one, which is true of them
pub unique_solutions : (world : World) → Sane world → HasUniqueSolutions world
unique_solutions world sane id key stands =
    let certified = sane.certified id key stands in
    let row : PuzzleRow = certified.0 in
    let is : IsTrueState row.puzzle (state.One certified.1) = subst (λ (s : PuzzleState). IsTrueState row.puzzle s)
    certified.3 (sane.states key row certified.2) in
    (row, certified.2, (is.0, is.2, is.3))

-- the filling of an answer that breaks no rule is the one solution, whose text is stored
right_answers_of : (puzzle : Board) (solution answer : List ℕ) (names : ℕ) → IsTrueState puzzle (state.One solution)
    → Verdict puzzle answer names → NamesNoRule names ↔ (answer ≡ solution)
right_answers_of puzzle solution answer names (f, written, solves, only) (inl (g, says, broken)) = (
  (λ right.
      let same : g ≡ f = only g (record {
        filling = says.filling;
        right = λ rule is. right rule
            ((broken.each rule).1 is);
      }) in
      says.written ∙ ap (text_of puzzle.kind puzzle.size) same ∙ sym written.written),
  (λ same rule named.
      let one : g ≡ f = one_filling puzzle solution g f (subst (λ (text : List ℕ). AnswerText puzzle text g) same says)
      written in
      solves.right rule (subst (λ (h : List ℕ). Breaks puzzle.kind puzzle h rule) one ((broken.each rule).0 named))),
)
right_answers_of puzzle solution answer names (f, written, solves, only) (inr (none, no_form)) = (
  (λ right. absurd (right A0 ((no_form.each A0).1 refl))),
  (λ same rule named. none f (subst (λ (text : List ℕ). AnswerText puzzle text f) (sym same) written)),
)

pub right_answers : (world : World) → Sane world → RightAnswersAreSolutions world
right_answers world sane key row solution answer names kept is verdict =
    right_answers_of row.puzzle solution answer names (subst (λ (s : PuzzleState). IsTrueState row.puzzle s) is
    (sane.states key row kept)) verdict

-- a true state's stored solution breaks no rule
stored_judged : (puzzle : Board) (s : PuzzleState) (answer : List ℕ) (names : ℕ) → IsTrueState puzzle s
    → IsTrue (is_solution s answer) → IsNameSet names → NamesNoRule names →
    Verdict puzzle answer names
stored_judged puzzle (state.One solution) answer names (f, written, solves, only) same set none =
    inl (
      f,
      subst (λ (text : List ℕ). AnswerText puzzle text f) ((text_decides solution answer).0 same) written,
      record {
        set = set;
        each = λ rule. (
          λ named. absurd (none rule named),
          λ broken. absurd
              (solves.right rule broken),
        );
      },
    )
stored_judged puzzle state.New answer names true_of is set none = absurd (false≢true is)
stored_judged puzzle state.NoSolution answer names true_of is set none = absurd (false≢true is)
stored_judged puzzle state.More answer names true_of is set none = absurd (false≢true is)
stored_judged puzzle state.GaveUp answer names true_of is set none = absurd (false≢true is)

-- so its verdict is the puzzle's rules' own
pub verdicts_are_judged : (world : World) → Sane world → VerdictsAreJudged world
verdicts_are_judged world sane key row answer verdict kept (inl (is, set, none)) = stored_judged row.puzzle row.state
    answer verdict (sane.states key row kept) is set none
verdicts_are_judged world sane key row answer verdict kept (inr (other, judged)) = judged
