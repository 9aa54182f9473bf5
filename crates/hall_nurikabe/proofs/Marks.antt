-- Marks, one after another.
use Rattle.std.proofs.Common.{◌≡◌, ℕ, zero, suc, ◌+◌, ◌<◌, ◌⊎◌, ◌↔◌, ◌++◌, Bool, true, false, Option, Some, None, List}
use Rattle.std.proofs.Common.{[], ◌∷◌, length, get_or, map, refl, sym, ap, ◌∙◌, subst, inl, inr, arith}
use Rattle.std.specs.Prelude.{◌==◌, nat_eq, not, slice_get}
use Rattle.std.specs.Option.{option_eq}
use Rattle.std.proofs.lemmas.Bool.{cases_eq, eqb-true, eq-eqb}
use Rattle.std.proofs.lemmas.List.{length_push}
use Rattle.std.proofs.lemmas.Option.{slice_get_within}
use Rattle.hall_grid.specs.declared.board.Clue.{Clue}
use Rattle.hall_grid.specs.Board.{Board}
use Rattle.hall_grid.specs.Nurikabe.{IsNumbered}
use Rattle.hall_grid.specs.Reached.{IsMarked}
use Rattle.hall_nurikabe.specs.Forced.{IsSetTo, IsOpenTo}
use Rattle.hall_nurikabe.specs.Marks.{MarksWhere, IsColoured, IsNumber}

-- the marks below an end say where the property holds
abbrev pub MarksBelow : (ℕ → Type 0) → ℕ → List Bool → Type 0
MarksBelow Holds end marks = MarksWhere (λ cell. (cell < end) × Holds cell) end marks

pub Marks-none : (Holds : ℕ → Type 0) → MarksBelow Holds 0 []
Marks-none Holds = record {
  exact = refl;
  marked = λ cell. (
    (λ h. absurd (cc)),
    (λ h. absurd (let low = h.0 in omega arith)),
  );
}

pub marked_push : (marks : List Bool) (b : Bool) (i : ℕ) → IsMarked (marks ++ b ∷ []) i → IsMarked marks i
    ⊎ ((i ≡ length marks) × (b ≡ true))
marked_push [] b zero h = inr (refl, h)
marked_push [] b (suc i) h = absurd (cc)
marked_push (m ∷ marks) b zero h = inl h
marked_push (m ∷ marks) b (suc i) h = elim (marked_push marks b i h)
    [ inl k ↦ inl k | inr k ↦ inr (let e = k.0 in omega arith, k.1) ]

marked_before : (marks : List Bool) (b : Bool) (i : ℕ) → IsMarked marks i → IsMarked (marks ++ b ∷ []) i
marked_before [] b i h = absurd (cc)
marked_before (m ∷ marks) b zero h = h
marked_before (m ∷ marks) b (suc i) h = marked_before marks b i h

marked_last : (marks : List Bool) (b : Bool) → b ≡ true → IsMarked (marks ++ b ∷ []) (length marks)
marked_last [] b h = h
marked_last (m ∷ marks) b h = marked_last marks b h

pub Marks-push : (Holds : ℕ → Type 0) (end : ℕ) (marks : List Bool) (b : Bool) → (b ≡ true) ↔ Holds end
    → MarksBelow Holds end marks
    → MarksBelow Holds (end + 1) (marks ++ b ∷ [])
Marks-push Holds end marks b same m = record {
  exact = (let e = length_push marks b in let k = m.exact in omega arith);
  marked = λ cell. (
    (λ h. elim (marked_push marks b cell h) [
      | inl k ↦ (let it = (m.marked cell).0 k in (let low = it.0 in omega arith, it.1))
      | inr k ↦
          let e : end ≡ cell = let x = m.exact in let y = k.0 in omega arith in
          (omega arith, subst Holds e (same.0 k.1))
    ]),
    (λ h. elim (cases_eq cell end) [
      | inl e ↦
          subst (IsMarked (marks ++ b ∷ [])) (let k = m.exact in omega arith)
          (marked_last marks b (same.1 (subst Holds e h.1)))
      | inr ne ↦ marked_before marks b cell ((m.marked cell).1 (let low = h.0 in omega arith, h.1))
    ]),
  );
}

-- the property holds below the end alone
pub Marks-whole : (Holds : ℕ → Type 0) (end n : ℕ) (marks : List Bool) → end ≡ n → ((cell : ℕ) → Holds cell → cell < n)
    → MarksBelow Holds end marks
    → MarksWhere Holds n marks
Marks-whole Holds end n marks e low m = record {
  exact = m.exact ∙ e;
  marked = λ cell. ((λ h. ((m.marked cell).0 h).1), (λ h. (m.marked cell).1 (let k = low cell h in omega arith, h)));
}

colour_at : (f : List ℕ) (colour i : ℕ) → IsMarked (map (λ v. v == colour) f) i → IsColoured f colour i
colour_at [] colour i h = absurd (cc)
colour_at (v ∷ f) colour zero h = (omega arith, eqb-true v colour h)
colour_at (v ∷ f) colour (suc i) h = let k = colour_at f colour i h in (let low = k.0 in omega arith, k.1)

at_colour : (f : List ℕ) (colour i : ℕ) → IsColoured f colour i → IsMarked (map (λ v. v == colour) f) i
at_colour [] colour i h = absurd (let low = h.0 in omega arith)
at_colour (v ∷ f) colour zero h = eq-eqb v colour h.1
at_colour (v ∷ f) colour (suc i) h = at_colour f colour i (let low = h.0 in omega arith, h.1)

map_length : (f : List ℕ) (colour : ℕ) → length (map (λ v. v == colour) f) ≡ length f
map_length [] colour = refl
map_length (v ∷ f) colour = ap suc (map_length f colour)

pub Marks-colour : (f : List ℕ) (colour : ℕ) (marks : List Bool) → marks ≡ map (λ v. v == colour) f
    → MarksWhere (IsColoured f colour) (length f) marks
Marks-colour f colour marks e = subst (MarksWhere (IsColoured f colour) (length f)) (sym e)
    record { exact = map_length f colour; marked = λ cell. (colour_at f colour cell, at_colour f colour cell) }

pub numbered_below : (board : Board) (cell : ℕ) → IsNumbered board cell → cell < length board.clues
numbered_below board cell (inl n) = slice_get_within board.clues cell _ n.1
numbered_below board cell (inr e) = slice_get_within board.clues cell _ e

-- a number of a clue is one of its cell
pub numbered_clue : (board : Board) (cell : ℕ) (clue : Clue) → slice_get board.clues cell ≡ Some clue → IsNumber clue
    ↔ IsNumbered board cell
numbered_clue board cell clue at = (
  (λ h. elim h [
    | inl n ↦ inl (n.0, subst (λ x. slice_get board.clues cell ≡ Some x) n.1 at)
    | inr e ↦ inr
        (subst (λ x. slice_get board.clues cell ≡ Some x) e at)
  ]),
  (λ h. elim h [
    | inl n ↦ inl (n.0, (let k : Some clue ≡ Some _ = sym at ∙ n.1 in cc))
    | inr e ↦ inr (let k : Some clue ≡ Some _ = sym at ∙ e in cc)
  ]),
)

pub through : {A B C : Type 0} → (A ↔ B) → (B ↔ C) → A ↔ C
through p q = ((λ a. q.0 (p.0 a)), (λ c. p.1 (q.1 c)))

-- a place has the value
pub is_set : (o : Option ℕ) (v : ℕ) → (option_eq nat_eq o (Some v) ≡ true) ↔ (o ≡ Some v)
is_set None v = ((λ h. absurd (cc)), (λ h. absurd (cc)))
is_set (Some x) v = ((λ h. let e : x ≡ v = eqb-true x v h in cc), (λ h. let e : x ≡ v = cc in eq-eqb x v e))

pub set_from_test : (o : Option ℕ) (v : ℕ) → false ≡ not (option_eq nat_eq o (Some v)) → o ≡ Some v
set_from_test o v e = decide (option_eq nat_eq o (Some v)) e (is_set o v).0
  where
    decide : (t : Bool) → false ≡ not t → (t ≡ true → o ≡ Some v) → o ≡ Some v
    decide true e k = k refl
    decide false e k = absurd (cc)

-- marks of the places that have the value, and of those that don't
set_at : (p : List (Option ℕ)) (value i : ℕ) → IsMarked (map (λ o. option_eq nat_eq o (Some value)) p) i
    ↔ (get_or p i None ≡ Some value)
set_at [] value i = ((λ h. absurd (cc)), (λ h. absurd (cc)))
set_at (o ∷ p) value zero = is_set o value
set_at (o ∷ p) value (suc i) = set_at p value i

open_at : (p : List (Option ℕ)) (value i : ℕ) → IsMarked (map (λ o. not (option_eq nat_eq o (Some value))) p) i
    ↔ ((i < length p) × (get_or p i None ≡ Some value → ⊥))
open_at [] value i = ((λ h. absurd (cc)), (λ h. absurd (let low = h.0 in omega arith)))
open_at (o ∷ p) value zero = (
  (λ h. (omega arith, λ e. let yes = (is_set o value).1 e in let no : true ≡ not true = sym h ∙ ap not yes in cc)),
  (λ h. decide (option_eq nat_eq o (Some value)) (λ yes. h.1 ((is_set o value).0 yes))),
)
  where
    decide : (t : Bool) → (t ≡ true → ⊥) → not t ≡ true
    decide true k = absurd (k refl)
    decide false k = refl
open_at (o ∷ p) value (suc i) = (
  (λ h. let k = (open_at p value i).0 h in (let low = k.0 in omega arith, k.1)),
  (λ h. (open_at p value i).1 (let low = h.0 in omega arith, h.1)),
)

map_long : {A : Type 0} (g : A → Bool) (xs : List A) → length (map g xs) ≡ length xs
map_long g [] = refl
map_long g (x ∷ xs) = ap suc (map_long g xs)

pub Marks-set : (p : List (Option ℕ)) (value : ℕ) (marks : List Bool)
    → marks ≡ map (λ o. option_eq nat_eq o (Some value)) p
    → MarksWhere (IsSetTo p value) (length p) marks
Marks-set p value marks e = subst (MarksWhere (IsSetTo p value) (length p)) (sym e)
    record { exact = map_long _ p; marked = set_at p value }

pub Marks-open : (p : List (Option ℕ)) (value : ℕ) (marks : List Bool)
    → marks ≡ map (λ o. not (option_eq nat_eq o (Some value))) p
    → MarksWhere (IsOpenTo p value) (length p) marks
Marks-open p value marks e = subst (MarksWhere (IsOpenTo p value) (length p)) (sym e)
    record { exact = map_long _ p; marked = open_at p value }
