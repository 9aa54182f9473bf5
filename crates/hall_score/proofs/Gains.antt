-- What rows give, where a test says which of them score and a number what each gives.
use Rattle.std.proofs.Common.{arith, ◌≡◌, ◌≤◌, ◌<◌, ◌+◌, ◌==◌, ◌&&◌, ◌||◌, ℕ, zero, suc, Bool, true, false, cond, List}
use Rattle.std.proofs.Common.{[], ◌∷◌, ◌++◌, map, max, fold, filter, All, refl, sym, ap, ◌∙◌, sum_by, count_by}
use Rattle.std.specs.List.{list_any, range_with_len}
use Rattle.std.proofs.lemmas.List.{map-append}
use Rattle.std.proofs.lemmas.List.Folds.{list_any-append}
use Rattle.std.proofs.lemmas.List.Sums.{fold-append, sum_by-append, sum_by-cons}
use Rattle.std.proofs.lemmas.List.Elements.{All-head, All-tail, filter-append}
use Rattle.std.proofs.lemmas.Bool.Decides.{nat_tests}
use Rattle.hall_policy.specs.declared.record.AnswerRow.{AnswerRow}

-- whether one of the rows scores at this number
abbrev pub solved_by : (AnswerRow → Bool) → List AnswerRow → ℕ → Bool
solved_by s rows k = list_any (λ row. (row.key.number == k) && s row) rows

-- the greatest moment of the rows that score
abbrev pub lasting : (AnswerRow → Bool) → List AnswerRow → ℕ
lasting s rows = fold max 0 (map (λ row. row.moment) (filter s rows))

-- what the rows give, over these numbers
pub record IsGain (ks : List ℕ) (s : AnswerRow → Bool) (f : AnswerRow → ℕ) (rows : List AnswerRow)
    (points solved last : ℕ) : Type 0 where
  pub points_are : points ≡ sum_by f rows
  pub solved_are : solved ≡ count_by (solved_by s rows) ks
  pub last_is : last ≡ lasting s rows

-- ---- two lists
-- 1 where the test passes
abbrev pub one_if : Bool → ℕ
one_if b = cond b 1 0

at_one : (a b : Bool) → (a ≡ true → b ≡ true → ⊥) → one_if (a || b) ≡ one_if a + one_if b
at_one true true apart = absurd (apart refl refl)
at_one true false apart = refl
at_one false true apart = refl
at_one false false apart = refl

count_either : (p q : ℕ → Bool) (ks : List ℕ) → ((k : ℕ) → p k ≡ true → q k ≡ true → ⊥)
    → count_by (λ k. p k || q k) ks ≡ count_by p ks + count_by q ks
count_either p q [] apart = refl
count_either p q (k ∷ ks) apart =
    let rest = count_either p q ks apart in
    let here : one_if (p k || q k) ≡ one_if (p k) + one_if (q k) = at_one (p k) (q k) (apart k) in
    omega (
      arith,
      rest,
      here,
      sum_by-cons (λ k. one_if (p k || q k)) k ks,
      sum_by-cons (λ k. one_if (p k)) k ks,
      sum_by-cons (λ k. one_if (q k)) k ks,
    )

count_same : (p q : ℕ → Bool) (ks : List ℕ) → ((k : ℕ) → p k ≡ q k) → count_by p ks ≡ count_by q ks
count_same p q [] same = refl
count_same p q (k ∷ ks) same =
    let rest = count_same p q ks same in
    let here : one_if (p k) ≡ one_if (q k) = ap one_if (same k) in
    omega (arith, rest, here, sum_by-cons (λ k. one_if (p k)) k ks, sum_by-cons (λ k. one_if (q k)) k ks)

max_assoc : (a b c : ℕ) → max (max a b) c ≡ max a (max b c)
max_assoc a b c = omega arith

pub fold_max : (a : ℕ) (xs : List ℕ) → fold max a xs ≡ max a (fold max 0 xs)
fold_max a [] = omega arith
fold_max a (x ∷ xs) =
    let more = fold_max (max a x) xs in
    let less = fold_max (max 0 x) xs in
    omega (arith, more, less)

lasting-append : (s : AnswerRow → Bool) (xs ys : List AnswerRow)
    → lasting s (xs ++ ys) ≡ max (lasting s xs) (lasting s ys)
lasting-append s xs ys =
    ap (λ rows. fold max 0 (map (λ row. row.moment) rows)) (filter-append s xs ys)
    ∙ (ap (fold max 0) (map-append (λ row. row.moment) (filter s xs) (filter s ys))
    ∙ (fold-append max 0 (map (λ row. row.moment) (filter s xs)) (map (λ row. row.moment) (filter s ys))
    ∙ fold_max (lasting s xs) (map (λ row. row.moment) (filter s ys))))

pub gain_append : (ks : List ℕ) (s : AnswerRow → Bool) (f : AnswerRow → ℕ) (xs ys : List AnswerRow) (p q l p' q' l' : ℕ)
    → IsGain ks s f xs p q l → IsGain ks s f ys p' q' l' → ((k : ℕ) → solved_by s xs k ≡ true → solved_by s ys k ≡ true
    → ⊥) → IsGain ks s f (xs ++ ys) (p + p') (q + q') (max l l')
gain_append ks s f xs ys p q l p' q' l' one other apart =
    let points = sum_by-append f xs ys in
    let either = count_same (solved_by s (xs ++ ys)) (λ k. solved_by s xs k || solved_by s ys k) ks
    (λ k. list_any-append (λ row. (row.key.number == k) && s row) xs ys) in
    let solved = count_either (solved_by s xs) (solved_by s ys) ks apart in
    let last = lasting-append s xs ys in
    let p1 = one.points_are in let p2 = other.points_are in
    let q1 = one.solved_are in let q2 = other.solved_are in
    let l1 = one.last_is in let l2 = other.last_is in
    record { points_are = cc; solved_are = cc; last_is = cc }

-- ---- rows that don't score
sum_none : (f : AnswerRow → ℕ) (rows : List AnswerRow) → All (λ row. f row ≡ 0) rows → sum_by f rows ≡ 0
sum_none f [] none = refl
sum_none f (row ∷ rows) none =
    let here = All-head (λ row. f row ≡ 0) row rows none in
    let rest = sum_none f rows (All-tail (λ row. f row ≡ 0) row rows none) in
    omega (arith, here, rest, sum_by-cons f row rows)

filter_none : (s : AnswerRow → Bool) (rows : List AnswerRow) → All (λ row. s row ≡ false) rows → filter s rows ≡ []
filter_none s [] none = refl
filter_none s (row ∷ rows) none =
    let here = All-head (λ row. s row ≡ false) row rows none in
    let rest = filter_none s rows (All-tail (λ row. s row ≡ false) row rows none) in
    rw here rest

count_none : (p : ℕ → Bool) (ks : List ℕ) → ((k : ℕ) → p k ≡ false) → count_by p ks ≡ 0
count_none p [] none = refl
count_none p (k ∷ ks) none =
    let rest = count_none p ks none in
    let here : one_if (p k) ≡ 0 = ap one_if (none k) in
    omega (arith, here, rest, sum_by-cons (λ k. one_if (p k)) k ks)

no_one : (a b c : Bool) → b ≡ false → c ≡ false → ((a && b) || c) ≡ false
no_one true b c e f = cc
no_one false b c e f = f

pub solved_none : (s : AnswerRow → Bool) (rows : List AnswerRow) (k : ℕ) → All (λ row. s row ≡ false) rows
    → solved_by s rows k ≡ false
solved_none s [] k none = refl
solved_none s (row ∷ rows) k none =
    let here = All-head (λ row. s row ≡ false) row rows none in
    let rest = solved_none s rows k (All-tail (λ row. s row ≡ false) row rows none) in
    no_one (row.key.number == k) (s row) (solved_by s rows k) here rest

pub gain_none : (ks : List ℕ) (s : AnswerRow → Bool) (f : AnswerRow → ℕ) (rows : List AnswerRow)
    → All (λ row. s row ≡ false) rows → All (λ row. f row ≡ 0) rows → IsGain ks s f rows 0 0 0
gain_none ks s f rows none nothing = record {
  points_are = sym (sum_none f rows nothing);
  solved_are = sym (count_none (solved_by s rows) ks (λ k. solved_none s rows k none));
  last_is = sym (ap (λ found. fold max 0 (map (λ row. row.moment) found)) (filter_none s rows none));
}

-- ---- a row that scores
sum_next : (c k low n : ℕ) → sum_by (λ j. cond (k == j) c 0) (range_with_len low (suc n)) ≡ cond (k == low) c 0 + sum_by
    (λ j. cond (k == j) c 0) (range_with_len (low + 1) n)
sum_next c k low n = sum_by-cons (λ j. cond (k == j) c 0) low (range_with_len (low + 1) n)

-- among numbers that rise by one, a number in their range stands once
sum_below : (c k low n : ℕ) → k < low → sum_by (λ j. cond (k == j) c 0) (range_with_len low n) ≡ 0
sum_below c k low zero h = refl
sum_below c k low (suc n) h =
    let rest = sum_below c k (low + 1) n (omega arith) in
    let here : cond (k == low) c 0 ≡ 0 = grind (arith, nat_tests) in
    omega (arith, here, rest, sum_next c k low n)

pub sum_once : (c k low n : ℕ) → low ≤ k → k < low + n → sum_by (λ j. cond (k == j) c 0) (range_with_len low n) ≡ c
sum_once c k low zero h g = absurd (omega arith)
sum_once c k low (suc n) h g = elim (k == low) as (λ b. (k == low) ≡ b
    → sum_by (λ j. cond (k == j) c 0) (range_with_len low (suc n)) ≡ c) [
      | true ↦ λ e.
          let same : k ≡ low = grind (arith, nat_tests) in
          let rest = sum_below c k (low + 1) n (omega arith) in
          let here : cond (k == low) c 0 ≡ c = ap (λ b. cond b c 0) e in
          omega (arith, here, rest, sum_next c k low n)
      | false ↦ λ e.
          let apart : (k ≡ low) → ⊥ = λ same. grind (arith, nat_tests) in
          let rest = sum_once c k (low + 1) n (omega (arith, apart)) (omega arith) in
          let here : cond (k == low) c 0 ≡ 0 = ap (λ b. cond b c 0) e in
          omega (arith, here, rest, sum_next c k low n)
    ] refl

count_once : (k low n : ℕ) → low ≤ k → k < low + n → count_by (λ j. k == j) (range_with_len low n) ≡ 1
count_once k low n h g = sum_once 1 k low n h g

and_true : (a b : Bool) → b ≡ true → ((a && b) || false) ≡ a
and_true true b e = cc
and_true false b e = refl

pub gain_one : (count : ℕ) (s : AnswerRow → Bool) (f : AnswerRow → ℕ) (row : AnswerRow) → s row ≡ true
    → 1 ≤ row.key.number → row.key.number ≤ count → IsGain (range_with_len 1 count) s f (row ∷ []) (f row) 1 row.moment
gain_one count s f row scores least most =
    let once = count_once row.key.number 1 count least (omega arith) in
    let at = count_same (solved_by s (row ∷ [])) (λ k. row.key.number == k) (range_with_len 1 count)
    (λ k. and_true (row.key.number == k) (s row) scores) in
    record {
      points_are = omega (arith, sum_by-cons f row []);
      solved_are = sym (at ∙ once);
      last_is = rw scores (omega arith);
    }

-- ---- other tests and numbers that agree on the rows
sum_agree : (f g : AnswerRow → ℕ) (rows : List AnswerRow) → All (λ row. f row ≡ g row) rows
    → sum_by f rows ≡ sum_by g rows
sum_agree f g [] same = refl
sum_agree f g (row ∷ rows) same =
    let here = All-head (λ row. f row ≡ g row) row rows same in
    let rest = sum_agree f g rows (All-tail (λ row. f row ≡ g row) row rows same) in
    omega (arith, here, rest, sum_by-cons f row rows, sum_by-cons g row rows)

filter_agree : (s t : AnswerRow → Bool) (rows : List AnswerRow) → All (λ row. s row ≡ t row) rows
    → filter s rows ≡ filter t rows
filter_agree s t [] same = refl
filter_agree s t (row ∷ rows) same =
    let here : s row ≡ t row = All-head (λ row. s row ≡ t row) row rows same in
    let rest = filter_agree s t rows (All-tail (λ row. s row ≡ t row) row rows same) in
    cc

solved_agree : (s t : AnswerRow → Bool) (rows : List AnswerRow) (k : ℕ) → All (λ row. s row ≡ t row) rows
    → solved_by s rows k ≡ solved_by t rows k
solved_agree s t [] k same = refl
solved_agree s t (row ∷ rows) k same =
    let here : s row ≡ t row = All-head (λ row. s row ≡ t row) row rows same in
    let rest = solved_agree s t rows k (All-tail (λ row. s row ≡ t row) row rows same) in
    cc

pub gain_agree : (ks : List ℕ) (s t : AnswerRow → Bool) (f g : AnswerRow → ℕ) (rows : List AnswerRow) (p q l : ℕ)
    → All (λ row. s row ≡ t row) rows → All (λ row. f row ≡ g row) rows → IsGain ks t g rows p q l
    → IsGain ks s f rows p q l
gain_agree ks s t f g rows p q l scores gives gain = record {
  points_are = gain.points_are ∙ sym (sum_agree f g rows gives);
  solved_are = gain.solved_are ∙ sym (count_same (solved_by s rows) (solved_by t rows) ks
      (λ k. solved_agree s t rows k scores));
  last_is = gain.last_is ∙ sym (ap (λ found. fold max 0 (map (λ row. row.moment) found))
      (filter_agree s t rows scores));
}
