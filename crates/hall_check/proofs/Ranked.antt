-- Answers that stand in an order are counted between two places.
use Rattle.std.proofs.Common.{◌≡◌, ◌≤◌, ◌+◌, ◌-◌, ℕ, Bor, Bool, true, false, not, List, [], ◌∷◌, length, map, count_by}
use Rattle.std.proofs.Common.{cond, refl, sym, ap, ◌∙◌, arith}
use Rattle.std.specs.Cmp.{IsTotalOrder}
use Rattle.std.specs.List.Sorted.{IsNonDecreasingBy, IsPermutation, IsSortedBy}
use Rattle.std.specs.List.Sorted.{IsPartitionedBy, IsPartitionPoint}
use Rattle.std.specs.Ordering.{is_eq, is_gt, is_lt, ordering_index, ordering_reverse, ordering_then}
use Rattle.std.specs.declared.cmp.Ordering.{Ordering}
use Rattle.std.specs.declared.cmp.Ordering.TheVariants.{Less, Equal, Greater}
use Rattle.std.proofs.lemmas.Bool.Decides.{nat_tests}
use Rattle.std.proofs.lemmas.Cmp.{then_total, on_total, nat_cmp_total, is_gt_index, is_lt_index}
use Rattle.std.proofs.lemmas.List.Sorted.{searchable_from_sorted, sum_by-IsPermutation}
use Rattle.std.proofs.lemmas.List.Sums.{sum_by-cons}
use Rattle.hall_policy.specs.declared.record.AnswerRow.{AnswerRow}
use Rattle.hall_policy.proofs.Orders.{text_total}
use Rattle.hall_score.proofs.Ranks.{count_after}
use Rattle.hall_check.specs.Groups.{AreRanked, to_puzzle_cmp, with_number_cmp}

-- both orders are total
pub to_puzzle_total : IsTotalOrder to_puzzle_cmp
to_puzzle_total =
    then_total (on_total (λ row. row.key.entrant) text_total)
    (then_total (on_total (λ row. row.key.round) text_total) (on_total (λ row. row.key.number) nat_cmp_total))

pub with_number_total : IsTotalOrder with_number_cmp
with_number_total = then_total to_puzzle_total (on_total (λ row. row.n) nat_cmp_total)

-- what is below by the first order is below by both
first_of : (a b : Ordering) → is_lt (ordering_then a b) ≡ false → is_lt a ≡ false
first_of Less b e = e
first_of Equal b e = refl
first_of Greater b e = refl

pub by_puzzle : {answers : List AnswerRow} (ranked : List (Bor AnswerRow)) → AreRanked answers ranked
    → IsSortedBy (λ a b. is_lt (to_puzzle_cmp a.now b.now)) ranked
by_puzzle ranked are k d low high = first_of _ _ (are.sorted k d low high)

-- a row that isn't below ties or is above
apart : (r : Ordering) → cond (not (is_lt r)) 1 0 ≡ cond (is_eq r) 1 0 + cond (not (not (is_gt r))) 1 0
apart Less = refl
apart Equal = refl
apart Greater = refl

both : {X : Type 0} (r : X → Ordering) (xs : List X) → count_by (λ x. not (is_lt (r x))) xs ≡
    count_by (λ x. is_eq (r x)) xs + count_by (λ x. not (not (is_gt (r x)))) xs
both r [] = refl
both r (x ∷ xs) =
    let below = sum_by-cons (λ y. cond (not (is_lt (r y))) 1 0) x xs in
    let ties = sum_by-cons (λ y. cond (is_eq (r y)) 1 0) x xs in
    omega (arith, both r xs, apart (r x), below, ties, sum_by-cons (λ y. cond (not (not (is_gt (r y)))) 1 0) x xs)

lent : {X : Type 0} (p : X → Bool) (xs : List (Bor X)) → count_by p (map (λ x. x.now) xs) ≡ count_by (λ x. p x.now) xs
lent p [] = refl
lent p (x ∷ xs) =
    let here = sum_by-cons (λ y. cond (p y) 1 0) x.now (map (λ y. y.now) xs) in
    omega (arith, lent p xs, here, sum_by-cons (λ (y : Bor _). cond (p y.now) 1 0) x xs)

-- a tie is one either way
turned : (r : Ordering) → is_eq (ordering_reverse r) ≡ is_eq r
turned Less = refl
turned Equal = refl
turned Greater = refl

module _ {X : Type 0} {R : X → X → Ordering} (o : IsTotalOrder R) (ranked : List (Bor X))
    (up : IsSortedBy (λ a b. is_lt (R a.now b.now)) ranked) (x : X) where
  rise : IsNonDecreasingBy (λ y. ordering_index (R y.now x)) ranked
  rise = searchable_from_sorted o (λ (y : Bor X). y.now) ranked x up

  pub below : IsPartitionedBy (λ y. is_lt (R y.now x)) ranked
  below i j d le within = let up = rise i j d le within in grind (arith, nat_tests, is_lt_index)

  pub up_to : IsPartitionedBy (λ y. not (is_gt (R y.now x))) ranked
  up_to i j d le within = let up = rise i j d le within in grind (arith, nat_tests, is_gt_index)

  -- the rows that tie are those from the first that isn't below, up to the last that isn't above
  pub counted : (rows : List X) → IsPermutation rows (map (λ y. y.now) ranked) → (low high : ℕ)
      → low ≤ length ranked → high ≤ length ranked
      → IsPartitionPoint (λ y. is_lt (R y.now x) ≡ true) (λ y. is_lt (R y.now x) ≡ false) ranked low
      → IsPartitionPoint (λ y. not (is_gt (R y.now x)) ≡ true) (λ y. not (is_gt (R y.now x)) ≡ false) ranked high
      → high - low ≡ count_by (λ y. is_eq (R x y)) rows
  counted rows moved low high low_in high_in less most =
      let from = count_after (λ (y : Bor X). not (is_lt (R y.now x))) ranked low low_in
      (λ k d a b. ap not (less.0 k d a b)) (λ k d a b. ap not (less.1 k d a b)) in
      let after = count_after (λ (y : Bor X). not (not (is_gt (R y.now x)))) ranked high high_in
      (λ k d a b. ap not (most.0 k d a b)) (λ k d a b. ap not (most.1 k d a b)) in
      let between : high - low ≡ count_by (λ (y : Bor X). is_eq (R y.now x)) ranked =
      omega (arith, from, after, both (λ (y : Bor X). R y.now x) ranked) in
      between ∙ sym (lent (λ y. is_eq (R y x)) ranked)
      ∙ sum_by-IsPermutation (λ y. cond (is_eq (R y x)) 1 0) rows (map (λ y. y.now) ranked) moved
      ∙ ap (λ f. count_by f rows) (λ i y. (ap is_eq (o.antisymm y x) ∙ turned (R x y)) i)
