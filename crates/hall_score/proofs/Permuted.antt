-- A total doesn't depend on the order in which the answers are given.
use Rattle.std.proofs.Common.{arith, ◌≡◌, ◌≤◌, ◌==◌, ◌&&◌, ◌||◌, ℕ, Bool, true, false, not, cond, List, [], ◌∷◌, length}
use Rattle.std.proofs.Common.{map, max, fold, filter, refl, sym, ap, ◌∙◌, sum_by, nat_lt, get_or}
use Rattle.std.specs.List.{list_any, list_all, range_with_len}
use Rattle.std.specs.List.Sorted.{IsPermutation}
use Rattle.std.proofs.lemmas.List.Sums.{sum_by-cons}
use Rattle.std.proofs.lemmas.List.Sorted.{sum_by-IsPermutation, list_any-IsPermutation}
use Rattle.std.proofs.lemmas.Bool.Decides.{nat_tests}
use Rattle.hall_policy.specs.declared.record.AnswerRow.{AnswerRow}
use Rattle.hall_policy.specs.declared.record.ProtestRow.{ProtestRow}
use Rattle.hall_policy.specs.declared.record.RoundRow.{RoundRow}
use Rattle.hall_score.specs.Total.{is_right, same_puzzle, does_score, points_for, is_solved, are_all_solved}
use Rattle.hall_score.specs.Total.{last_moment, bonus_of, total_of}
use Rattle.hall_score.proofs.Gains.{lasting, fold_max}
use Rattle.hall_score.proofs.Apart.{IsSameFor, same_for}
use Rattle.hall_score.proofs.Tried.{any_agree, lt_false}

same_row : (round : RoundRow) (xs ys : List AnswerRow) → IsPermutation xs ys → (row : AnswerRow)
    → IsSameFor round xs ys row
same_row round xs ys moved row = same_for round xs ys row (record {
  right_before = list_any-IsPermutation (λ other. same_puzzle other row && (is_right other && nat_lt other.n row.n)) xs
      ys moved;
  later = λ _. list_any-IsPermutation (λ other. same_puzzle other row && nat_lt row.n other.n) xs ys moved;
  wrong = sym (sum_by-IsPermutation (λ other. cond (same_puzzle other row &&
      (not (is_right other) && nat_lt other.n row.n)) 1 0) xs ys moved);
})

sum_same : (f g : AnswerRow → ℕ) (rows : List AnswerRow) → ((row : AnswerRow) → f row ≡ g row)
    → sum_by f rows ≡ sum_by g rows
sum_same f g [] same = refl
sum_same f g (row ∷ rows) same =
    let here = same row in
    let rest = sum_same f g rows same in
    omega (arith, here, rest, sum_by-cons f row rows, sum_by-cons g row rows)

points_same : (round : RoundRow) (xs ys : List AnswerRow) → IsPermutation xs ys
    → sum_by (points_for round xs) xs ≡ sum_by (points_for round ys) ys
points_same round xs ys moved =
    sym (sum_by-IsPermutation (points_for round xs) xs ys moved)
    ∙ sum_same (points_for round xs) (points_for round ys) ys (λ row. (same_row round xs ys moved row).gives)

solved_same : (round : RoundRow) (xs ys : List AnswerRow) → IsPermutation xs ys → (k : ℕ)
    → is_solved round xs k ≡ is_solved round ys k
solved_same round xs ys moved k =
    list_any-IsPermutation (λ row. (row.key.number == k) && does_score round xs row) xs ys moved
    ∙ any_agree (λ row. (row.key.number == k) && does_score round xs row)
    (λ row. (row.key.number == k) && does_score round ys row) ys
    (λ i d within. ap (λ b. ((get_or ys i d).key.number == k) && b) (same_row round xs ys moved (get_or ys i d)).scores)

all_same : (p q : ℕ → Bool) (ks : List ℕ) → ((k : ℕ) → p k ≡ q k) → list_all p ks ≡ list_all q ks
all_same p q [] same = refl
all_same p q (k ∷ ks) same =
    let here : p k ≡ q k = same k in
    let rest = all_same p q ks same in
    cc

-- ---- the last moment
lt_max : (k a b c : ℕ) → c ≡ max a b → nat_lt k c ≡ (nat_lt k a || nat_lt k b)
lt_max k a b c e = grind (arith, nat_tests)

-- a moment is before the last one exactly where it is before one that scores
pub above : (s : AnswerRow → Bool) (rows : List AnswerRow) (k : ℕ)
    → nat_lt k (lasting s rows) ≡ list_any (λ row. s row && nat_lt k row.moment) rows
above s [] k = lt_false k 0 (omega arith)
above s (row ∷ rows) k =
    let rest = above s rows k in
    elim (s row) as (λ b. nat_lt k (fold max 0 (map (λ r. r.moment) (cond b (row ∷ filter s rows) (filter s rows)))) ≡
    ((b && nat_lt k row.moment) || list_any (λ r. s r && nat_lt k r.moment) rows)) [
      | true ↦ lt_max k row.moment (lasting s rows) (fold max (max 0 row.moment) (map (λ r. r.moment) (filter s rows)))
          (omega (arith, fold_max (max 0 row.moment) (map (λ r. r.moment) (filter s rows))))
          ∙ ap (λ b. nat_lt k row.moment || b) rest
      | false ↦ rest
    ]

not_less : (a b : ℕ) → nat_lt a b ≡ false → b ≤ a
not_less a b e = grind (arith, nat_tests)

same_heights : (a b : ℕ) → ((k : ℕ) → nat_lt k a ≡ nat_lt k b) → a ≡ b
same_heights a b same =
    let up : a ≤ b = not_less b a (same b ∙ lt_false b b (omega arith)) in
    let down : b ≤ a = not_less a b (sym (same a) ∙ lt_false a a (omega arith)) in
    omega (arith, up, down)

last_same : (round : RoundRow) (xs ys : List AnswerRow) → IsPermutation xs ys
    → last_moment round xs ≡ last_moment round ys
last_same round xs ys moved = same_heights (last_moment round xs) (last_moment round ys) (λ k.
    above (does_score round xs) xs k
    ∙ (list_any-IsPermutation (λ row. does_score round xs row && nat_lt k row.moment) xs ys moved
    ∙ (any_agree (λ row. does_score round xs row && nat_lt k row.moment)
    (λ row. does_score round ys row && nat_lt k row.moment) ys
    (λ i d within. ap (λ b. b && nat_lt k (get_or ys i d).moment) (same_row round xs ys moved (get_or ys i d)).scores)
    ∙ sym (above (does_score round ys) ys k))))

-- the same answers in another order have the same total
pub total_of_permutes : (round : RoundRow) (answers others : List AnswerRow) (protests : List ProtestRow)
    → IsPermutation answers others → total_of round answers protests ≡ total_of round others protests
total_of_permutes round answers others protests moved =
    let points = points_same round answers others moved in
    let solved : are_all_solved round answers ≡ are_all_solved round others = all_same (is_solved round answers)
    (is_solved round others) (range_with_len 1 (length round.puzzles)) (solved_same round answers others moved) in
    let last = last_same round answers others moved in
    let bonus : bonus_of round answers ≡ bonus_of round others = rw (solved, last) refl in
    rw (points, bonus) refl
