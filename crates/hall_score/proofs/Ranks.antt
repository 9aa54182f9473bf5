-- Ranks by a search among the rising totals.
use Rattle.std.proofs.Common.{arith, ◌≡◌, ◌≤◌, ◌+◌, ℕ, ℤ, zero, suc, Bool, true, false, not, List, [], ◌∷◌, length, map}
use Rattle.std.proofs.Common.{refl, ap, ◌∙◌, count_by, int_lt, get_or}
use Rattle.std.specs.List.{AllWithin}
use Rattle.std.specs.List.Sorted.{IsSorted, IsPermutation, IsPartitionedBy, IsPartitionPoint}
use Rattle.std.specs.Ordering.{int_cmp, is_lt}
use Rattle.std.proofs.lemmas.List.Sums.{sum_by-cons}
use Rattle.std.proofs.lemmas.List.Sorted.{sum_by-IsPermutation, sorted_far, ranks_by}
use Rattle.std.proofs.lemmas.Cmp.{int_cmp_total}
use Rattle.std.proofs.lemmas.Int.{ints}
use Rattle.hall_score.specs.Standings.{rank_of}
use Rattle.hall_score.proofs.Gains.{one_if}

-- what passes from one place on, and not before it, is counted by the place
pub count_after : {X : Type 0} (p : X → Bool) (xs : List X) (i : ℕ) → i ≤ length xs
    → AllWithin (λ x. p x ≡ false) xs 0 i → AllWithin (λ x. p x ≡ true) xs i (length xs) → count_by p xs + i ≡ length xs
count_after p [] i within none all = omega arith
count_after p (x ∷ xs) zero within none all =
    let rest = count_after p xs zero (omega arith) (λ k d low high. absurd (omega arith))
    (λ k d low high. all (suc k) d (omega arith) (omega arith)) in
    let here : one_if (p x) ≡ 1 = ap one_if (all 0 x (omega arith) (omega arith)) in
    omega (arith, rest, here, sum_by-cons (λ y. one_if (p y)) x xs)
count_after p (x ∷ xs) (suc i) within none all =
    let rest = count_after p xs i (omega arith) (λ k d low high. none (suc k) d (omega arith) (omega arith))
    (λ k d low high. all (suc k) d (omega arith) (omega arith)) in
    let here : one_if (p x) ≡ 0 = ap one_if (none 0 x (omega arith) (omega arith)) in
    omega (arith, rest, here, sum_by-cons (λ y. one_if (p y)) x xs)

at_most : (t a b : ℤ) → is_lt (int_cmp b a) ≡ false → not (int_lt t b) ≡ true → not (int_lt t a) ≡ true
at_most t a b up low = grind (arith, ints)

pub parted : (t : ℤ) (xs : List ℤ) → IsSorted int_cmp xs → IsPartitionedBy (λ y. not (int_lt t y)) xs
parted t xs up i j d le within low =
    at_most t (get_or xs i d) (get_or xs j d) (sorted_far (λ x y. is_lt (int_cmp x y)) (ranks_by int_cmp_total (λ x. x))
    xs up i j d le within) low

not_true : (b : Bool) → not b ≡ true → b ≡ false
not_true true e = absurd (cc)
not_true false e = refl

not_false : (b : Bool) → not b ≡ false → b ≡ true
not_false true e = refl
not_false false e = absurd (cc)

pub counted : (t : ℤ) (xs : List ℤ) (i : ℕ) → i ≤ length xs → IsPartitionPoint (λ y. not (int_lt t y) ≡ true)
    (λ y. not (int_lt t y) ≡ false) xs i → count_by (λ other. int_lt t other) xs + i ≡ length xs
counted t xs i within at =
    count_after (λ other. int_lt t other) xs i within
    (λ k d low high. not_true (int_lt t (get_or xs k d)) (at.0 k d low high))
    (λ k d low high. not_false (int_lt t (get_or xs k d)) (at.1 k d low high))

counted_of_pairs : (t : ℤ) (totals : List (List ℕ × ℤ)) → count_by (λ other. int_lt t other)
    (map (λ entrant. entrant.1) totals) ≡ count_by (λ other. int_lt t other.1) totals
counted_of_pairs t [] = refl
counted_of_pairs t (entrant ∷ totals) =
    let rest = counted_of_pairs t totals in
    omega (
      arith,
      rest,
      sum_by-cons (λ other. one_if (int_lt t other)) entrant.1 (map (λ e. e.1) totals),
      sum_by-cons
          (λ (other : List ℕ × ℤ). one_if (int_lt t other.1)) entrant totals,
    )

pub rank_among : (t : ℤ) (totals : List (List ℕ × ℤ)) (rising : List ℤ)
    → IsPermutation (map (λ entrant. entrant.1) totals) rising → 1 + count_by (λ other. int_lt t other) rising ≡ rank_of
    totals t
rank_among t totals rising moved =
    ap (λ n. 1 + n) (sum_by-IsPermutation (λ other. one_if (int_lt t other)) (map (λ entrant. entrant.1) totals) rising
    moved ∙ counted_of_pairs t totals)
