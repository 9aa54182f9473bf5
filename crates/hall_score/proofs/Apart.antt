-- Rows that don't touch each other: answers to other puzzles, and later answers in an instant round.
use Rattle.std.proofs.Common.{arith, ◌≡◌, ◌*◌, ◌&&◌, ◌||◌, Bool, true, false, not, List, [], ◌∷◌, ◌++◌, All, refl, ap}
use Rattle.std.proofs.Common.{◌∙◌, count_by, nat_lt}
use Rattle.std.specs.List.{list_any}
use Rattle.std.proofs.lemmas.List.Folds.{list_any-append, list_any_none}
use Rattle.std.proofs.lemmas.List.Sums.{sum_by-append, sum_by-cons}
use Rattle.std.proofs.lemmas.List.Elements.{All-head, All-tail}
use Rattle.hall_policy.specs.declared.record.AnswerRow.{AnswerRow}
use Rattle.hall_policy.specs.declared.record.RoundRow.{RoundRow}
use Rattle.hall_policy.specs.declared.record.Mode.{Mode}
use Rattle.hall_policy.specs.declared.record.Mode.TheVariants.{Instant, Sealed}
use Rattle.hall_score.proofs.Gains.{one_if}
use Rattle.hall_score.specs.Total.{is_right, same_puzzle, has_right_before, has_later, does_count, wrong_before}
use Rattle.hall_score.specs.Total.{cost_of, does_score, points_for}

-- ---- tests that no row of a list passes
or_false : (a b c : Bool) → b ≡ false → c ≡ (a || b) → c ≡ a
or_false true b c e f = f
or_false false b c e f = f ∙ e

pub any_left : {X : Type 0} (p : X → Bool) (xs ys : List X) → All (λ x. p x ≡ false) ys
    → list_any p (xs ++ ys) ≡ list_any p xs
any_left p xs ys none =
    let none_right = list_any_none p ys none in
    let both = list_any-append p xs ys in
    or_false (list_any p xs) (list_any p ys) (list_any p (xs ++ ys)) none_right both

pub any_right : {X : Type 0} (p : X → Bool) (xs ys : List X) → All (λ x. p x ≡ false) xs
    → list_any p (xs ++ ys) ≡ list_any p ys
any_right p xs ys none =
    let none_left = list_any_none p xs none in
    let both = list_any-append p xs ys in
    cc

count_zero : {X : Type 0} (p : X → Bool) (xs : List X) → All (λ x. p x ≡ false) xs → count_by p xs ≡ 0
count_zero p [] none = refl
count_zero p (x ∷ xs) none =
    let here : p x ≡ false = All-head (λ x. p x ≡ false) x xs none in
    let rest = count_zero p xs (All-tail (λ x. p x ≡ false) x xs none) in
    let one : one_if (p x) ≡ 0 = ap one_if here in
    omega (arith, one, rest, sum_by-cons (λ x. one_if (p x)) x xs)

pub count_left : {X : Type 0} (p : X → Bool) (xs ys : List X) → All (λ x. p x ≡ false) ys
    → count_by p (xs ++ ys) ≡ count_by p xs
count_left p xs ys none = omega (arith, count_zero p ys none, sum_by-append (λ x. one_if (p x)) xs ys)

pub count_right : {X : Type 0} (p : X → Bool) (xs ys : List X) → All (λ x. p x ≡ false) xs
    → count_by p (xs ++ ys) ≡ count_by p ys
count_right p xs ys none = omega (arith, count_zero p xs none, sum_by-append (λ x. one_if (p x)) xs ys)

-- ---- what is known of a row is the same among other rows
pub record IsSameFor (round : RoundRow) (xs ys : List AnswerRow) (row : AnswerRow) : Type 0 where
  pub scores : does_score round xs row ≡ does_score round ys row
  pub gives : points_for round xs row ≡ points_for round ys row

pub record IsUntouched (mode : Mode) (xs ys : List AnswerRow) (row : AnswerRow) : Type 0 where
  pub right_before : has_right_before xs row ≡ has_right_before ys row
  pub later : mode ≡ Sealed → has_later xs row ≡ has_later ys row
  pub wrong : wrong_before xs row ≡ wrong_before ys row

counts_same : (mode : Mode) (xs ys : List AnswerRow) (row : AnswerRow) → IsUntouched mode xs ys row
    → does_count mode xs row ≡ does_count mode ys row
counts_same Instant xs ys row same = ap (λ b. is_right row && not b) same.right_before
counts_same Sealed xs ys row same = ap not (same.later refl)

costs_same : (round : RoundRow) (mode : Mode) (xs ys : List AnswerRow) (row : AnswerRow) → IsUntouched mode xs ys row
    → cost_of round mode xs row ≡ cost_of round mode ys row
costs_same round Instant xs ys row same = ap (λ n. n * round.round.penalty) same.wrong
costs_same round Sealed xs ys row same = refl

pub same_for : (round : RoundRow) (xs ys : List AnswerRow) (row : AnswerRow) → IsUntouched round.round.mode xs ys row
    → IsSameFor round xs ys row
same_for round xs ys row same =
    let counts = counts_same round.round.mode xs ys row same in
    let costs = costs_same round round.round.mode xs ys row same in
    record { scores = rw counts refl; gives = rw (counts, costs) refl }

-- ---- answers to other puzzles
other_false : (a b : Bool) → a ≡ false → (a && b) ≡ false
other_false a b e = rw e refl

pub record AreApart (rows : List AnswerRow) (row : AnswerRow) : Type 0 where
  pub others : All (λ other. same_puzzle other row ≡ false) rows

pub untouched_left : (mode : Mode) (xs ys : List AnswerRow) (row : AnswerRow) → AreApart ys row
    → IsUntouched mode (xs ++ ys) xs row
untouched_left mode xs ys row apart = record {
  right_before = any_left (λ other. same_puzzle other row && (is_right other && nat_lt other.n row.n)) xs ys
      (λ k d within. other_false _ _ (apart.others k d within));
  later = λ _. any_left (λ other. same_puzzle other row && nat_lt row.n other.n) xs ys
      (λ k d within. other_false _ _ (apart.others k d within));
  wrong = count_left (λ other. same_puzzle other row && (not (is_right other) && nat_lt other.n row.n)) xs ys
      (λ k d within. other_false _ _ (apart.others k d within));
}

pub untouched_right : (mode : Mode) (xs ys : List AnswerRow) (row : AnswerRow) → AreApart xs row
    → IsUntouched mode (xs ++ ys) ys row
untouched_right mode xs ys row apart = record {
  right_before = any_right (λ other. same_puzzle other row && (is_right other && nat_lt other.n row.n)) xs ys
      (λ k d within. other_false _ _ (apart.others k d within));
  later = λ _. any_right (λ other. same_puzzle other row && nat_lt row.n other.n) xs ys
      (λ k d within. other_false _ _ (apart.others k d within));
  wrong = count_right (λ other. same_puzzle other row && (not (is_right other) && nat_lt other.n row.n)) xs ys
      (λ k d within. other_false _ _ (apart.others k d within));
}
