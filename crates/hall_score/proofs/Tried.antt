-- One more answer to the same puzzle, by the round's mode.
use Rattle.std.proofs.Common.{arith, ◌≡◌, ◌≤◌, ◌<◌, ◌+◌, ◌-◌, ◌*◌, ◌&&◌, ◌||◌, ℕ, zero, suc, Bool, true, false, not}
use Rattle.std.proofs.Common.{List, [], ◌∷◌, ◌++◌, length, max, All, refl, sym, ap, subst, get_or, ◌∙◌, count_by}
use Rattle.std.proofs.Common.{nat_lt, is_some}
use Rattle.std.specs.List.{list_any}
use Rattle.std.proofs.lemmas.List.Folds.{list_any-append, list_any_none, list_any_at}
use Rattle.std.proofs.lemmas.List.Sums.{sum_by-cons, sum_by_push}
use Rattle.std.proofs.lemmas.List.Elements.{All-head, All-tail, All-push}
use Rattle.std.proofs.lemmas.Bool.Decides.{nat_tests}
use Rattle.hall_policy.specs.World.{entry_at}
use Rattle.hall_policy.specs.declared.record.AnswerRow.{AnswerRow}
use Rattle.hall_policy.specs.declared.record.RoundRow.{RoundRow}
use Rattle.hall_policy.specs.declared.record.Mode.TheVariants.{Instant, Sealed}
use Rattle.hall_score.specs.Total.{is_right, same_puzzle, has_right_before, has_later, does_count, wrong_before}
use Rattle.hall_score.specs.Total.{cost_of, does_score, points_for, points_of}
use Rattle.hall_score.specs.Progress.{HasScoreParts, IsScoreOf, AreTriesOf, AreTriedBefore}
use Rattle.hall_score.specs.declared.entrant.Score.{Score}
use Rattle.hall_score.specs.declared.entrant.Tries.{Tries}
use Rattle.hall_score.proofs.Gains.{gain_append, gain_none, gain_agree, solved_by, one_if, solved_none}
use Rattle.hall_score.proofs.Apart.{IsSameFor, IsUntouched, same_for, any_left, count_left}
use Rattle.hall_score.proofs.Scores.{only_last, none_scores, numbers, gain_of, score_of, no_points, true_false}

-- ---- the answer beside those before it
same_here : (before row : AnswerRow) → before.key.number ≡ row.key.number → same_puzzle before row ≡ true
same_here before row same = grind (arith, nat_tests)

pub lt_true : (a b : ℕ) → a < b → nat_lt a b ≡ true
lt_true a b h = grind (arith, nat_tests)

pub lt_false : (a b : ℕ) → b ≤ a → nat_lt a b ≡ false
lt_false a b h = grind (arith, nat_tests)

three_true : (a b c : Bool) → a ≡ true → c ≡ true → (a && (b && c)) ≡ b
three_true a true c e f = cc
three_true a false c e f = cc

three_false : (a b c : Bool) → c ≡ false → (a && (b && c)) ≡ false
three_false true true c e = e
three_false true false c e = refl
three_false false b c e = refl

pub any_agree : {X : Type 0} (p q : X → Bool) (xs : List X) → All (λ x. p x ≡ q x) xs → list_any p xs ≡ list_any q xs
any_agree p q [] same = refl
any_agree p q (x ∷ xs) same =
    let here : p x ≡ q x = All-head (λ x. p x ≡ q x) x xs same in
    let rest = any_agree p q xs (All-tail (λ x. p x ≡ q x) x xs same) in
    cc

count_agree : {X : Type 0} (p q : X → Bool) (xs : List X) → All (λ x. p x ≡ q x) xs → count_by p xs ≡ count_by q xs
count_agree p q [] same = refl
count_agree p q (x ∷ xs) same =
    let here : one_if (p x) ≡ one_if (q x) = ap one_if (All-head (λ x. p x ≡ q x) x xs same) in
    let rest = count_agree p q xs (All-tail (λ x. p x ≡ q x) x xs same) in
    omega (arith, here, rest, sum_by-cons (λ x. one_if (p x)) x xs, sum_by-cons (λ x. one_if (q x)) x xs)

-- a list of one
pub alone : {X : Type 0} (P : X → Type 0) (x : X) → P x → All P (x ∷ [])
alone P x h zero d within = h
alone P x h (suc k) d within = absurd (omega arith)

two_false : (a b : Bool) → b ≡ false → (a && b) ≡ false
two_false true b e = e
two_false false b e = refl

first_false : (a b : Bool) → a ≡ false → (a && b) ≡ false
first_false a b e = rw e refl

second_false : (a b : Bool) → b ≡ false → (a && b) ≡ false
second_false a b e = two_false a b e

last_or : (a b : Bool) → (a || (b || false)) ≡ (a || b)
last_or true b = refl
last_or false true = refl
last_or false false = refl

two_true : (a b : Bool) → a ≡ true → b ≡ true → ((a && b) || false) ≡ true
two_true true b e f = cc
two_true false b e f = cc

or_second : (a b : Bool) → b ≡ true → (a || b) ≡ true
or_second true b e = refl
or_second false b e = e

scores_not : (a b c : Bool) → b ≡ false → (a && (b && c)) ≡ false
scores_not true b c e = cc
scores_not false b c e = refl

outer_false : (a b c : Bool) → (a && c) ≡ false → (a && (b && c)) ≡ false
outer_false true true c e = e
outer_false true false c e = refl
outer_false false b c e = refl

pub not_true : (b : Bool) → (b ≡ true → ⊥) → b ≡ false
not_true true h = absurd (h refl)
not_true false h = refl

none_of : {X : Type 0} (p : X → Bool) (xs : List X) → All (λ x. p x ≡ false) xs → list_any p xs ≡ false
none_of p xs none = list_any_none p xs none

any_none : {X : Type 0} (p : X → Bool) (xs : List X) → list_any p xs ≡ false → All (λ x. p x ≡ false) xs
any_none p xs none k d within = not_true (p (get_or xs k d))
    (λ e. true_false (list_any p xs) (list_any_at p xs k d within e) none)

last_false : (a b c : Bool) → c ≡ false → (a && (b && c)) ≡ false
last_false a b c e = three_false a b c e

-- a wrong answer scores in no round
wrong_scores_not : (round : RoundRow) (rows : List AnswerRow) (row : AnswerRow) → is_right row ≡ false
    → does_score round rows row ≡ false
wrong_scores_not round rows row wrong = last_false (is_some (entry_at round.puzzles row.key.number))
    (does_count round.round.mode rows row) (is_right row) wrong

-- a later answer touches none before it in an instant round
untouched_instant : (rows : List AnswerRow) (row before : AnswerRow) → before.n < row.n
    → IsUntouched Instant (rows ++ row ∷ []) rows before
untouched_instant rows row before less = record {
  right_before = any_left (λ other. same_puzzle other before && (is_right other && nat_lt other.n before.n)) rows
      (row ∷ [])
      (alone (λ other. (same_puzzle other before && (is_right other && nat_lt other.n before.n)) ≡ false) row
      (three_false (same_puzzle row before) (is_right row) (nat_lt row.n before.n)
      (lt_false row.n before.n (omega arith))));
  later = λ sealed. absurd (cc);
  wrong = count_left (λ other. same_puzzle other before && (not (is_right other) && nat_lt other.n before.n)) rows
      (row ∷ [])
      (alone (λ other. (same_puzzle other before && (not (is_right other) && nat_lt other.n before.n)) ≡ false) row
      (three_false (same_puzzle row before) (not (is_right row)) (nat_lt row.n before.n)
      (lt_false row.n before.n (omega arith))));
}

right_before : (rows : List AnswerRow) (row : AnswerRow) → AreTriedBefore rows row
    → has_right_before (rows ++ row ∷ []) row ≡ list_any is_right rows
right_before rows row before =
    let test = λ (other : AnswerRow). same_puzzle other row && (is_right other && nat_lt other.n row.n) in
    any_left test rows (row ∷ []) (alone (λ other. test other ≡ false) row
    (three_false (same_puzzle row row) (is_right row) (nat_lt row.n row.n) (lt_false row.n row.n (omega arith))))
    ∙ any_agree test is_right rows (λ k d within.
    let at = before k d within in
    three_true (same_puzzle (get_or rows k d) row) (is_right (get_or rows k d)) (nat_lt (get_or rows k d).n row.n)
    (same_here (get_or rows k d) row at.0) (lt_true (get_or rows k d).n row.n at.1))

wrong_so_far : (rows : List AnswerRow) (row : AnswerRow) → AreTriedBefore rows row
    → wrong_before (rows ++ row ∷ []) row ≡ count_by (λ other. not (is_right other)) rows
wrong_so_far rows row before =
    let test = λ (other : AnswerRow). same_puzzle other row && (not (is_right other) && nat_lt other.n row.n) in
    count_left test rows (row ∷ []) (alone (λ other. test other ≡ false) row
    (three_false (same_puzzle row row) (not (is_right row)) (nat_lt row.n row.n)
    (lt_false row.n row.n (omega arith))))
    ∙ count_agree test (λ other. not (is_right other)) rows (λ k d within.
    let at = before k d within in
    three_true (same_puzzle (get_or rows k d) row) (not (is_right (get_or rows k d))) (nat_lt (get_or rows k d).n row.n)
    (same_here (get_or rows k d) row at.0) (lt_true (get_or rows k d).n row.n at.1))

-- the answer comes after those before it
later_than : (rows : List AnswerRow) (row : AnswerRow) → AreTriedBefore rows row
    → has_later (rows ++ row ∷ []) row ≡ false
later_than rows row before =
    let test = λ (other : AnswerRow). same_puzzle other row && nat_lt row.n other.n in
    any_left test rows (row ∷ []) (alone (λ other. test other ≡ false) row
    (two_false (same_puzzle row row) (nat_lt row.n row.n) (lt_false row.n row.n (omega arith))))
    ∙ none_of test rows (λ k d within.
    let at = before k d within in
    two_false (same_puzzle (get_or rows k d) row) (nat_lt row.n (get_or rows k d).n)
    (lt_false row.n (get_or rows k d).n (omega arith)))

-- and they have it after them
has_it_later : (rows : List AnswerRow) (row before : AnswerRow) → before.key.number ≡ row.key.number → before.n < row.n
    → has_later (rows ++ row ∷ []) before ≡ true
has_it_later rows row before same less =
    let test = λ (other : AnswerRow). same_puzzle other before && nat_lt before.n other.n in
    let both : list_any test (rows ++ row ∷ []) ≡ (list_any test rows || list_any test (row ∷ [])) = list_any-append
    test rows (row ∷ []) in
    let puzzle = same_here row before (sym same) in
    let here = two_true (same_puzzle row before) (nat_lt before.n row.n) puzzle (lt_true before.n row.n less) in
    both ∙ or_second (list_any test rows) (list_any test (row ∷ [])) here

-- ---- scores
-- the first right answer scores, and costs the wrong ones before it
pub instant_scores : (round : RoundRow) (rows : List AnswerRow) (row : AnswerRow) (c : Score)
    → round.round.mode ≡ Instant → AreTriedBefore rows row → list_any is_right rows ≡ false → is_right row ≡ true
    → is_some (entry_at round.puzzles row.key.number) ≡ true
    → c.points ≡ points_of (entry_at round.puzzles row.key.number) - count_by (λ other. not (is_right other)) rows *
    round.round.penalty → c.solved ≡ 1 → c.last ≡ row.moment → IsScoreOf round (rows ++ row ∷ []) c
instant_scores round rows row c mode before none right entry ep eq el =
    let all = rows ++ row ∷ [] in
    let counts : does_count round.round.mode all row ≡ true = rw (mode, right_before rows row before, none, right)
    refl in
    let scores : does_score round all row ≡ true = rw (entry, counts, right) refl in
    let cost : cost_of round round.round.mode all row ≡ count_by (λ other. not (is_right other)) rows *
    round.round.penalty = rw (mode, wrong_so_far rows row before) refl in
    let points : points_for round all row ≡ points_of (entry_at round.puzzles row.key.number) - count_by
    (λ other. not (is_right other)) rows * round.round.penalty = rw (scores, cost) refl in
    only_last round rows row c (λ k d within. wrong_scores_not round all (get_or rows k d)
    (any_none is_right rows none k d within)) scores (ep ∙ sym points) eq el

-- any other answer in an instant round changes nothing
pub instant_stays : (round : RoundRow) (rows : List AnswerRow) (row : AnswerRow) (a : Score)
    → round.round.mode ≡ Instant → AreTriedBefore rows row → (is_right row && not (list_any is_right rows)) ≡ false
    → IsScoreOf round rows a → IsScoreOf round (rows ++ row ∷ []) a
instant_stays round rows row a mode before idle one =
    let all = rows ++ row ∷ [] in
    let counts : does_count round.round.mode all row ≡ false = rw (mode, right_before rows row before) idle in
    let none : does_score round all row ≡ false = scores_not (is_some (entry_at round.puzzles row.key.number))
    (does_count round.round.mode all row) (is_right row) counts in
    let left : (k : ℕ) (d : AnswerRow) → k < length rows → IsSameFor round all rows (get_or rows k d) = λ k d within.
    same_for round all rows (get_or rows k d) (subst (λ m. IsUntouched m all rows (get_or rows k d)) (sym mode)
    (untouched_instant rows row (get_or rows k d) (before k d within).1)) in
    let first = gain_agree (numbers round) (does_score round all) (does_score round rows) (points_for round all)
    (points_for round rows) rows a.points a.solved a.last
    (λ k d within. (left k d within).scores) (λ k d within. (left k d within).gives) (gain_of round rows a one) in
    let second = gain_none (numbers round) (does_score round all) (points_for round all) (row ∷ [])
    (alone (λ r. does_score round all r ≡ false) row none)
    (alone (λ r. points_for round all r ≡ 0) row (no_points round all row none)) in
    let both = gain_append (numbers round) (does_score round all) (points_for round all) rows (row ∷ []) a.points
    a.solved a.last 0 0 0 first second
    (λ k p q. true_false (solved_by (does_score round all) (row ∷ []) k) q
    (solved_none (does_score round all) (row ∷ []) k (alone (λ r. does_score round all r ≡ false) row none))) in
    score_of round all a (a.points + 0) (a.solved + 0) (max a.last 0) both (omega arith) (omega arith) (omega arith)

-- in a sealed round only the last answer may score
sealed_before : (round : RoundRow) (rows : List AnswerRow) (row : AnswerRow) → round.round.mode ≡ Sealed
    → AreTriedBefore rows row → All (λ before. does_score round (rows ++ row ∷ []) before ≡ false) rows
sealed_before round rows row mode before k d within =
    let at = before k d within in
    let other = get_or rows k d in
    let counts : does_count round.round.mode (rows ++ row ∷ []) other ≡ false =
    rw (mode, has_it_later rows row other at.0 at.1) refl in
    scores_not (is_some (entry_at round.puzzles other.key.number))
    (does_count round.round.mode (rows ++ row ∷ []) other) (is_right other) counts

pub sealed_scores : (round : RoundRow) (rows : List AnswerRow) (row : AnswerRow) (c : Score) → round.round.mode ≡ Sealed
    → AreTriedBefore rows row → is_right row ≡ true → is_some (entry_at round.puzzles row.key.number) ≡ true
    → c.points ≡ points_of (entry_at round.puzzles row.key.number) → c.solved ≡ 1 → c.last ≡ row.moment
    → IsScoreOf round (rows ++ row ∷ []) c
sealed_scores round rows row c mode before right entry ep eq el =
    let all = rows ++ row ∷ [] in
    let counts : does_count round.round.mode all row ≡ true = rw (mode, later_than rows row before) refl in
    let scores : does_score round all row ≡ true = rw (entry, counts, right) refl in
    let cost : cost_of round round.round.mode all row ≡ 0 = rw mode refl in
    let points : points_for round all row ≡ points_of (entry_at round.puzzles row.key.number) - 0 = rw (scores, cost)
    refl in
    only_last round rows row c (sealed_before round rows row mode before) scores (omega (arith, ep, points)) eq el

pub sealed_none : (round : RoundRow) (rows : List AnswerRow) (row : AnswerRow) (c : Score) → round.round.mode ≡ Sealed
    → AreTriedBefore rows row → (is_some (entry_at round.puzzles row.key.number) && is_right row) ≡ false → c.points ≡ 0
    → c.solved ≡ 0 → c.last ≡ 0 → IsScoreOf round (rows ++ row ∷ []) c
sealed_none round rows row c mode before idle ep eq el =
    let all = rows ++ row ∷ [] in
    let none : does_score round all row ≡ false = outer_false (is_some (entry_at round.puzzles row.key.number))
    (does_count round.round.mode all row) (is_right row) idle in
    none_scores round all c (All-push (λ r. does_score round all r ≡ false) rows row
    (sealed_before round rows row mode before) none) ep eq el

-- ---- by whether the round has the puzzle
outside_scores_not : (round : RoundRow) (rows : List AnswerRow) (row : AnswerRow) (k : ℕ) → row.key.number ≡ k
    → is_some (entry_at round.puzzles k) ≡ false → does_score round rows row ≡ false
outside_scores_not round rows row k same none =
    let entry : is_some (entry_at round.puzzles row.key.number) ≡ false = ap (λ n. is_some (entry_at round.puzzles n))
    same ∙ none in
    first_false (is_some (entry_at round.puzzles row.key.number)) (does_count round.round.mode rows row && is_right row)
    entry

-- answers to no puzzle of the round give nothing
pub outside_none : (round : RoundRow) (rows : List AnswerRow) (row : AnswerRow) (c : Score) → AreTriedBefore rows row
    → is_some (entry_at round.puzzles row.key.number) ≡ false → HasScoreParts c 0 0 0
    → IsScoreOf round (rows ++ row ∷ []) c
outside_none round rows row c before none gives =
    let all = rows ++ row ∷ [] in
    none_scores round all c
    (All-push (λ r. does_score round all r ≡ false) rows row
    (λ k d within. outside_scores_not round all (get_or rows k d) row.key.number (before k d within).0 none)
    (outside_scores_not round all row row.key.number refl none))
    gives.0 gives.1 gives.2

by_entry : (P : Type 0) (b : Bool) → (b ≡ true → P) → (b ≡ false → P) → P
by_entry P true there missing = there refl
by_entry P false there missing = missing refl

pub instant_first : (round : RoundRow) (rows : List AnswerRow) (row : AnswerRow) (tries : Tries) (cost : ℕ) (c : Score)
    → cost ≡ tries.wrong * round.round.penalty → round.round.mode ≡ Instant → AreTriedBefore rows row
    → AreTriesOf round rows tries → tries.has_right ≡ false → is_right row ≡ true
    → (is_some (entry_at round.puzzles row.key.number) ≡ true
    → HasScoreParts c (points_of (entry_at round.puzzles row.key.number) - cost) 1 row.moment)
    → (is_some (entry_at round.puzzles row.key.number) ≡ false → HasScoreParts c 0 0 0)
    → IsScoreOf round (rows ++ row ∷ []) c
instant_first round rows row tries cost c charged mode before is none right within outside =
    by_entry (IsScoreOf round (rows ++ row ∷ []) c) (is_some (entry_at round.puzzles row.key.number))
    (λ entry.
    let gives = within entry in
    let fine : cost ≡ count_by (λ other. not (is_right other)) rows * round.round.penalty = charged
    ∙ ap (λ n. n * round.round.penalty) is.wrong in
    let points : c.points ≡ points_of (entry_at round.puzzles row.key.number) - count_by (λ other. not (is_right other))
    rows * round.round.penalty = gives.0 ∙ ap (λ n. points_of (entry_at round.puzzles row.key.number) - n) fine in
    instant_scores round rows row c mode before (sym is.has_right ∙ none) right entry points gives.1 gives.2)
    (λ entry. outside_none round rows row c before entry (outside entry))

pub instant_other : (round : RoundRow) (rows : List AnswerRow) (row : AnswerRow) (tries : Tries)
    → round.round.mode ≡ Instant → AreTriedBefore rows row → AreTriesOf round rows tries
    → (is_right row && not tries.has_right) ≡ false → IsScoreOf round (rows ++ row ∷ []) tries.score
instant_other round rows row tries mode before is idle =
    instant_stays round rows row tries.score mode before (sym (ap (λ b. is_right row && not b) is.has_right) ∙ idle)
    is.score

pub sealed_right : (round : RoundRow) (rows : List AnswerRow) (row : AnswerRow) (c : Score) → round.round.mode ≡ Sealed
    → AreTriedBefore rows row → is_right row ≡ true → (is_some (entry_at round.puzzles row.key.number) ≡ true
    → HasScoreParts c (points_of (entry_at round.puzzles row.key.number) - 0) 1 row.moment)
    → (is_some (entry_at round.puzzles row.key.number) ≡ false → HasScoreParts c 0 0 0)
    → IsScoreOf round (rows ++ row ∷ []) c
sealed_right round rows row c mode before right within outside =
    by_entry (IsScoreOf round (rows ++ row ∷ []) c) (is_some (entry_at round.puzzles row.key.number))
    (λ entry. let gives = within entry in sealed_scores round rows row c mode before right entry
    (omega (arith, gives.0)) gives.1 gives.2)
    (λ entry. outside_none round rows row c before entry (outside entry))

pub sealed_wrong : (round : RoundRow) (rows : List AnswerRow) (row : AnswerRow) (c : Score) → round.round.mode ≡ Sealed
    → AreTriedBefore rows row → is_right row ≡ false → HasScoreParts c 0 0 0 → IsScoreOf round (rows ++ row ∷ []) c
sealed_wrong round rows row c mode before wrong gives =
    sealed_none round rows row c mode before (second_false (is_some (entry_at round.puzzles row.key.number))
    (is_right row) wrong) gives.0 gives.1 gives.2

-- ---- the counts
pub no_tries : (round : RoundRow) (tries : Tries) → tries.wrong ≡ 0 → tries.has_right ≡ false
    → HasScoreParts tries.score 0 0 0 → AreTriesOf round [] tries
no_tries round tries wrong none gives = record {
  wrong = wrong;
  has_right = none;
  score = none_scores round [] tries.score (λ k d within. absurd (omega arith)) gives.0 gives.1 gives.2;
}

pub more_tries : (round : RoundRow) (rows : List AnswerRow) (row : AnswerRow) (tries more : Tries)
    → AreTriesOf round rows tries → more.wrong ≡ tries.wrong + one_if (not (is_right row))
    → more.has_right ≡ (tries.has_right || is_right row) → IsScoreOf round (rows ++ row ∷ []) more.score
    → AreTriesOf round (rows ++ row ∷ []) more
more_tries round rows row tries more is wrong right score =
    let counted : count_by (λ other. not (is_right other)) (rows ++ row ∷ []) ≡ count_by (λ other. not (is_right other))
    rows + one_if (not (is_right row)) = sum_by_push (λ other. one_if (not (is_right other))) rows row in
    let found : list_any is_right (rows ++ row ∷ []) ≡ (list_any is_right rows || (is_right row || false)) =
    list_any-append is_right rows (row ∷ []) in
    let last = last_or (list_any is_right rows) (is_right row) in
    let before = is.wrong in
    let before_right = is.has_right in
    record {
      wrong = omega (arith, counted, wrong, before);
      has_right = cc (found, last, right, before_right);
      score =
          score;
    }
