-- What a count says of the open ones of some sides.
use Rattle.std.proofs.Common.{◌≡◌, ℕ, zero, suc, ◌+◌, ◌*◌, ◌<◌, ◌≤◌, ◌⊎◌, Bool, true, false, cond, eqb, List, [], ◌∷◌}
use Rattle.std.proofs.Common.{length, get_or, Option, Some, None, refl, sym, ap, subst, inl, inr, arith}
use Rattle.std.specs.Prelude.{Contains, IfSome, is_none, slice_index}
use Rattle.std.proofs.lemmas.Bool.{cases_eq, cases_Bool, eq-eqb, eqb-true}
use Rattle.std.proofs.lemmas.List.Elements.{All-head, All-tail}
use Rattle.std.proofs.lemmas.List.Sums.{sum_by-cons}
use Rattle.hall_grid.specs.Slither.{is_line}
use Rattle.hall_solve.specs.Question.{Question, Solves, Extends, IsOpen}
use Rattle.hall_slither.specs.Dot.{count_at, AreBelow}
use Rattle.hall_slither.specs.Count.{count_sides, is_one, has_line, is_place_unset, Meets, Follows, IsConsequenceTold}
use Rattle.hall_slither.specs.declared.count.Demand.{Demand}
use Rattle.hall_slither.specs.declared.count.Consequence.{Consequence}
use Rattle.hall_slither.specs.declared.count.Consequence.TheVariants.{Nothing, AllBe, Impossible}

count-cons : (p : ℕ → Bool) (o : Option ℕ) (os : List (Option ℕ)) → count_sides p (o ∷ os) ≡ count_at p o + count_sides
    p os
count-cons p o os = sum_by-cons (count_at p) o os

-- a set place has the filling's value, an open one has none
line_bounds : (f : List ℕ) (v : Option ℕ) (s : ℕ) → ((w : ℕ) → v ≡ Some w → slice_index f s ≡ w)
    → (cond (is_one v) 1 0 ≤ cond (is_line f s) 1 0) × (cond (is_line f s) 1 0 ≤ cond (is_one v) 1 0 + cond (is_none v)
    1 0)
line_bounds f None s h = elim (is_line f s) as (λ b. (0 ≤ cond b 1 0) × (cond b 1 0 ≤ 0 + 1))
    [ true ↦ (omega arith, omega arith) | false ↦ (omega arith, omega arith) ]
line_bounds f (Some w) s h =
    let e : slice_index f s ≡ w = h w refl in
    subst (λ x. (cond (eqb w 1) 1 0 ≤ cond (eqb x 1) 1 0) × (cond (eqb x 1) 1 0 ≤ cond (eqb w 1) 1 0 + 0)) (sym e)
    (omega arith, omega arith)

at_bounds : (f : List ℕ) (p : List (Option ℕ)) (o : Option ℕ) → Extends f p
    → (count_at (has_line p) o ≤ count_at (is_line f) o) × (count_at (is_line f) o ≤ count_at (has_line p) o + count_at
    (is_place_unset p) o)
at_bounds f p None h = (omega arith, omega arith)
at_bounds f p (Some s) h = line_bounds f (get_or p s None) s (λ w e. h s w e)

-- a solution has at least the lines so far, and at most those and the open sides
pub count_bounds : (f : List ℕ) (p : List (Option ℕ)) (os : List (Option ℕ)) → Extends f p
    → (count_sides (has_line p) os ≤ count_sides (is_line f) os)
    × (count_sides (is_line f) os ≤ count_sides (has_line p) os + count_sides (is_place_unset p) os)
count_bounds f p [] h = (omega arith, omega arith)
count_bounds f p (o ∷ os) h =
    let a = at_bounds f p o h in
    let r = count_bounds f p os h in
    let x = count-cons (has_line p) o os in
    let y = count-cons (is_line f) o os in
    let z = count-cons (is_place_unset p) o os in
    let a0 = a.0 in let a1 = a.1 in let r0 = r.0 in let r1 = r.1 in
    (omega arith, omega arith)

-- an open side among them is counted
open_at : (f : List ℕ) (p : List (Option ℕ)) (s : ℕ) → get_or p s None ≡ None → (count_at (has_line p) (Some s) ≡ 0)
    × (count_at (is_place_unset p) (Some s) ≡ 1)
open_at f p s e = (ap (λ v. cond (is_one v) 1 0) e, ap (λ v. cond (is_none v) 1 0) e)

-- with no further line
pub none_further : (f : List ℕ) (p : List (Option ℕ)) (os : List (Option ℕ)) (s : ℕ) → Extends f p
    → count_sides (is_line f) os ≡ count_sides (has_line p) os
    → Contains os (Some s) → get_or p s None ≡ None → is_line f s ≡ false
none_further f p [] s h e (k, low, is) u = absurd (omega arith)
none_further f p (o ∷ os) s h e (zero, low, is) u =
    let x = count-cons (has_line p) o os in let y = count-cons (is_line f) o os in
    let a = (at_bounds f p o h).0 in let r = (count_bounds f p os h).0 in
    let here : count_at (is_line f) (Some s) ≡ count_at (has_line p) (Some s) =
    subst (λ t. count_at (is_line f) t ≡ count_at (has_line p) t) is (omega arith) in
    let z = (open_at f p s u).0 in
    elim (cases_Bool (is_line f s)) [
      | inr t ↦ t
      | inl t ↦ absurd (let one : count_at (is_line f) (Some s) ≡ 1 = ap (λ b. cond b 1 0) t in omega arith)
    ]
none_further f p (o ∷ os) s h e (suc k, low, is) u =
    let x = count-cons (has_line p) o os in let y = count-cons (is_line f) o os in
    let a = (at_bounds f p o h).0 in let r = (count_bounds f p os h).0 in
    none_further f p os s h (omega arith) (k, omega arith, is) u

-- with all further lines
pub all_further : (f : List ℕ) (p : List (Option ℕ)) (os : List (Option ℕ)) (s : ℕ) → Extends f p
    → count_sides (is_line f) os ≡ count_sides (has_line p) os + count_sides (is_place_unset p) os
    → Contains os (Some s) → get_or p s None ≡ None → is_line f s ≡ true
all_further f p [] s h e (k, low, is) u = absurd (omega arith)
all_further f p (o ∷ os) s h e (zero, low, is) u =
    let x = count-cons (has_line p) o os in let y = count-cons (is_line f) o os in let w = count-cons (is_place_unset p)
    o os in
    let a = (at_bounds f p o h).1 in let r = (count_bounds f p os h).1 in
    let here : count_at (is_line f) (Some s) ≡ count_at (has_line p) (Some s) + count_at (is_place_unset p) (Some s) =
    subst (λ t. count_at (is_line f) t ≡ count_at (has_line p) t + count_at (is_place_unset p) t) is (omega arith) in
    let z = open_at f p s u in
    let z0 = z.0 in let z1 = z.1 in
    elim (cases_Bool (is_line f s)) [
      | inl t ↦ t
      | inr t ↦ absurd (let none : count_at (is_line f) (Some s) ≡ 0 = ap (λ b. cond b 1 0) t in omega arith)
    ]
all_further f p (o ∷ os) s h e (suc k, low, is) u =
    let x = count-cons (has_line p) o os in let y = count-cons (is_line f) o os in let w = count-cons (is_place_unset p)
    o os in
    let a = (at_bounds f p o h).1 in let r = (count_bounds f p os h).1 in
    all_further f p os s h (omega arith) (k, omega arith, is) u

none_or : (v : Option ℕ) → (v ≡ None) ⊎ (is_none v ≡ false)
none_or None = inl refl
none_or (Some v) = inr refl

-- some side among them is open
pub some_open : (p : List (Option ℕ)) (os : List (Option ℕ)) → 0 < count_sides (is_place_unset p) os
    → AreBelow (length p) os
    → (s : ℕ) × Contains os (Some s) × IsOpen p s
some_open p [] h low = absurd (omega arith)
some_open p (None ∷ os) h low =
    let e = count-cons (is_place_unset p) None os in
    let r = some_open p os (omega arith) (All-tail (λ o. IfSome o (λ s. s < length p)) None os low) in
    (r.0, (suc r.1.0, let k = r.1.1 in omega arith, r.1.2), r.2)
some_open p (Some s ∷ os) h low =
    let rest = All-tail (λ o. IfSome o (λ s. s < length p)) (Some s) os low in
    elim (none_or (get_or p s None)) [
      | inl e ↦ (s, (0, omega arith, refl), (All-head (λ o. IfSome o (λ s. s < length p)) (Some s) os low, e))
      | inr set ↦
          let e = count-cons (is_place_unset p) (Some s) os in
          let z : count_at (is_place_unset p) (Some s) ≡ 0 = ap (λ b. cond b 1 0) set in
          let r = some_open p os (omega arith) rest in
          (r.0, (suc r.1.0, let k = r.1.1 in omega arith, r.1.2), r.2)
    ]

-- q: two values at each place. p: a partial filling. lines, unset: how many of the sides are lines and how many open
module _ (q : Question) (p : List (Option ℕ)) (os : List (Option ℕ)) (demand : Demand) (lines unset : ℕ)
    (two : q.values ≡ 2) (exact : length p ≡ q.cells) (low : AreBelow (length p) os)
    (are_lines : lines ≡ count_sides (has_line p) os) (are_unset : unset ≡ count_sides (is_place_unset p) os)
    (meets : (f : List ℕ) → Solves q p f → Meets demand (count_sides (is_line f) os)) where
  -- the count of a solution lies between
  between : (f : List ℕ) → Solves q p f → (lines ≤ count_sides (is_line f) os)
      × (count_sides (is_line f) os ≤ lines + unset)
  between f s = let b = count_bounds f p os s.extends in let b0 = b.0 in let b1 = b.1 in (omega arith, omega arith)

  exactly : (value : ℕ) → ((n : ℕ) → lines ≤ n → n ≤ lines + unset → Meets demand n → n ≡ lines + value * unset)
      → (f : List ℕ) → Solves q p f
      → count_sides (is_line f) os ≡ lines + value * unset
  exactly value h f s = let b = between f s in h (count_sides (is_line f) os) b.0 b.1 (meets f s)

  forced : (value : ℕ) → value < 2 → ((n : ℕ) → lines ≤ n → n ≤ lines + unset → Meets demand n
      → n ≡ lines + value * unset)
      → (f : List ℕ) (s : ℕ) → Solves q p f → Contains os (Some s) → IsOpen p s → slice_index f s ≡ value
  forced zero lt h f s sol among is_unset =
      let off = none_further f p os s sol.extends (let e = exactly 0 h f sol in omega arith) among is_unset.1 in
      let small : slice_index f s < 2 = let r = sol.filling.in_range s (let l = is_unset.0 in omega arith) in omega
      arith in
      elim (cases_eq (slice_index f s) 1) [
        | inl e ↦ absurd (let one = eq-eqb (slice_index f s) 1 e in cc)
        | inr ne ↦ omega arith
      ]
  forced (suc zero) lt h f s sol among is_unset =
      eqb-true (slice_index f s) 1 (all_further f p os s sol.extends (let e = exactly 1 h f sol in omega arith) among
      is_unset.1)
  forced (suc (suc value)) lt h f s sol among is_unset = absurd (omega arith)

  pub IsTold-from_counts : (o : Consequence) → Follows demand lines unset o → IsConsequenceTold q p os o
  IsTold-from_counts Nothing h = tt
  IsTold-from_counts (AllBe value) h =
      (h.1, some_open p os (let k = h.0 in omega arith) low, forced value h.1 h.2)
  IsTold-from_counts Impossible h = λ f s. let b = between f s in h (count_sides (is_line f) os) b.0 b.1 (meets f s)
