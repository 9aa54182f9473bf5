-- One entrant's answers, taken by their numbers, then by their n.
use Rattle.std.proofs.Common.{arith, ◌≡◌, ◌≤◌, ◌<◌, ◌+◌, ◌+ℤ◌, ◌*ℤ◌, ◌==◌, ◌&&◌, ℕ, ℤ, pos, suc, Bool, true, false}
use Rattle.std.proofs.Common.{List, [], ◌∷◌, ◌++◌, length, max, All, refl, sym, ap, subst, ◌∙◌, sum_by, count_by}
use Rattle.std.proofs.Common.{append_assoc}
use Rattle.std.specs.List.{list_all, range_with_len}
use Rattle.std.proofs.lemmas.List.FromFn.{length-range_with_len}
use Rattle.std.proofs.lemmas.List.Sums.{sum_by-cons}
use Rattle.std.proofs.lemmas.List.Elements.{All-push, All-append, Contains-push}
use Rattle.std.proofs.lemmas.Int.{ints}
use Rattle.std.proofs.lemmas.Bool.Decides.{nat_tests}
use Rattle.hall_policy.specs.declared.record.AnswerRow.{AnswerRow}
use Rattle.hall_policy.specs.declared.record.RoundRow.{RoundRow}
use Rattle.hall_score.specs.Total.{is_solved, are_all_solved, minutes_left, points_for, bonus_of, answer_points}
use Rattle.hall_score.specs.Progress.{HasScoreParts, IsScoreOf, AreTriesOf, AreTriedBefore, IsProgressOf}
use Rattle.hall_score.specs.declared.entrant.Score.{Score}
use Rattle.hall_score.specs.declared.entrant.Progress.{Progress}
use Rattle.hall_score.proofs.Gains.{one_if}
use Rattle.hall_score.proofs.Scores.{score_append, none_scores}
use Rattle.hall_score.proofs.Tried.{alone}

none_at_all : (round : RoundRow) (score : Score) → HasScoreParts score 0 0 0 → IsScoreOf round [] score
none_at_all round score gives = none_scores round [] score (λ k d within. absurd (omega arith)) gives.0 gives.1 gives.2

pub first_work : (round : RoundRow) (row : AnswerRow) (progress : Progress) → progress.number ≡ row.key.number
    → progress.n ≡ row.n → HasScoreParts progress.closed 0 0 0 → AreTriesOf round (row ∷ []) progress.tries
    → IsProgressOf round (row ∷ []) progress
first_work round row progress number n gives tries = record {
  closed = [];
  current = row ∷ [];
  whole = refl;
  before = λ k d within. absurd (omega arith);
  here = alone (λ r. r.key.number ≡ progress.number) row (sym number);
  up_to = alone (λ r. r.n ≤ progress.n) row (omega arith);
  reached = (row, Contains-push [] row, sym n);
  score = none_at_all round progress.closed gives;
  tries = tries;
}

-- the answers to the puzzle at hand come before the next one to it
pub tried_before : (round : RoundRow) (rows : List AnswerRow) (progress : Progress) (row : AnswerRow)
    (is : IsProgressOf round rows progress) → progress.number ≡ row.key.number → progress.n < row.n
    → AreTriedBefore is.current row
tried_before round rows progress row is number n k d within =
    let here = is.here k d within in
    let up_to = is.up_to k d within in
    (here ∙ number, omega arith)

pub try_work : (round : RoundRow) (rows : List AnswerRow) (row : AnswerRow) (progress next : Progress)
    (is : IsProgressOf round rows progress) → progress.number ≡ row.key.number → progress.n < row.n
    → next.closed ≡ progress.closed → next.number ≡ progress.number → next.n ≡ row.n
    → AreTriesOf round (is.current ++ row ∷ []) next.tries → IsProgressOf round (rows ++ row ∷ []) next
try_work round rows row progress next is number less closed same n tries = record {
  closed = is.closed;
  current = is.current ++ row ∷ [];
  whole = ap (λ l. l ++ row ∷ []) is.whole ∙ append_assoc is.closed is.current (row ∷ []);
  before = λ k d within. let h = is.before k d within in omega arith;
  here = All-push (λ r. r.key.number ≡ next.number) is.current row (λ k d within. is.here k d within ∙ sym same)
      (sym number ∙ sym same);
  up_to = All-push (λ r. r.n ≤ next.n) is.current row (λ k d within. let h = is.up_to k d within in omega arith)
      (omega arith);
  reached = (row, Contains-push is.current row, sym n);
  score = subst (λ s. IsScoreOf round is.closed s) (sym closed) is.score;
  tries = tries;
}

pub score_work : (round : RoundRow) (rows : List AnswerRow) (progress : Progress) (score : Score)
    (is : IsProgressOf round rows progress) → score.points ≡ progress.closed.points + progress.tries.score.points
    → score.solved ≡ progress.closed.solved + progress.tries.score.solved
    → score.last ≡ max progress.closed.last progress.tries.score.last → IsScoreOf round rows score
score_work round rows progress score is points solved last =
    subst (λ l. IsScoreOf round l score) (sym is.whole) (score_append round is.closed is.current progress.number
    progress.closed progress.tries.score score is.score is.tries.score is.before is.here points solved last)

pub puzzle_work : (round : RoundRow) (rows : List AnswerRow) (row : AnswerRow) (progress next : Progress)
    (is : IsProgressOf round rows progress) → progress.number < row.key.number → IsScoreOf round rows next.closed
    → next.number ≡ row.key.number → next.n ≡ row.n → AreTriesOf round (row ∷ []) next.tries
    → IsProgressOf round (rows ++ row ∷ []) next
puzzle_work round rows row progress next is ahead score number n tries =
    let lower : All (λ r. r.key.number < next.number) (is.closed ++ is.current) = All-append
    (λ r. r.key.number < next.number) is.closed is.current
    (λ k d within. let h = is.before k d within in omega arith)
    (λ k d within. let h = is.here k d within in omega arith) in
    record {
      closed = rows;
      current = row ∷ [];
      whole = refl;
      before = subst (λ l. All (λ r. r.key.number < next.number) l) (sym is.whole) lower;
      here = alone (λ r. r.key.number ≡ next.number) row (sym number);
      up_to = alone (λ r. r.n ≤ next.n) row (omega arith);
      reached = (row, Contains-push [] row, sym n);
      score = score;
      tries = tries;
    }

-- ---- the points
same_tests : (a b c d : ℕ) → c ≡ suc a → d ≡ suc b → (a == b) ≡ (c == d)
same_tests a b c d e f = grind (arith, nat_tests)

at_most_one : (b : Bool) → one_if b ≤ 1
at_most_one true = omega arith
at_most_one false = omega arith

same_number : (a b : ℕ) → a ≡ b → (a == b) ≡ true
same_number a b e = grind (arith, nat_tests)

other_number : (a b : ℕ) → (a ≡ b → ⊥) → (a == b) ≡ false
other_number a b e = grind (arith, nat_tests)

plus_none : (n : ℕ) → pos n +ℤ pos 0 ≡ pos n
plus_none n = omega (arith, ints)

by_first : (b all : Bool) (count more n : ℕ) → all ≡ (count == n) → more ≡ one_if b + count → count ≤ n
    → (b && all) ≡ (more == suc n)
by_first true all count more n rest is most = rest ∙ same_tests count n more (suc n) (omega arith) (omega arith)
by_first false all count more n rest is most = sym (other_number more (suc n) (λ e. omega arith))

count_at_most : (p : ℕ → Bool) (ks : List ℕ) → count_by p ks ≤ length ks
count_at_most p [] = omega arith
count_at_most p (k ∷ ks) =
    let rest = count_at_most p ks in
    let here = at_most_one (p k) in
    omega (arith, rest, here, sum_by-cons (λ k. one_if (p k)) k ks)

-- all pass exactly where as many pass as there are
all_counted : (p : ℕ → Bool) (ks : List ℕ) → list_all p ks ≡ (count_by p ks == length ks)
all_counted p [] = refl
all_counted p (k ∷ ks) =
    let rest = all_counted p ks in
    let count = sum_by-cons (λ k. one_if (p k)) k ks in
    by_first (p k) (list_all p ks) (count_by p ks) (count_by p (k ∷ ks)) (length ks) rest count (count_at_most p ks)

pub all_solved : (round : RoundRow) (rows : List AnswerRow) (score : Score) → IsScoreOf round rows score
    → are_all_solved round rows ≡ (score.solved == length round.puzzles)
all_solved round rows score is =
    all_counted (is_solved round rows) (range_with_len 1 (length round.puzzles))
    ∙ (ap (λ n. n == length (range_with_len 1 (length round.puzzles))) (sym is.solved)
    ∙ ap (λ n. score.solved == n) (length-range_with_len 1 (length round.puzzles)))

pub points_with_bonus : (round : RoundRow) (rows : List AnswerRow) (score : Score) (z : ℤ) → IsScoreOf round rows score
    → score.solved ≡ length round.puzzles → z ≡ pos score.points +ℤ
    (pos round.round.bonus *ℤ minutes_left round score.last) → z ≡ answer_points round rows
points_with_bonus round rows score z is solved value =
    let all : are_all_solved round rows ≡ true = all_solved round rows score is
    ∙ same_number score.solved (length round.puzzles) solved in
    let bonus : bonus_of round rows ≡ pos round.round.bonus *ℤ minutes_left round score.last = rw (all, is.last) refl in
    value ∙ (ap (λ n. pos n +ℤ (pos round.round.bonus *ℤ minutes_left round score.last)) is.points
    ∙ ap (λ b. pos (sum_by (points_for round rows) rows) +ℤ b) (sym bonus))

pub points_alone : (round : RoundRow) (rows : List AnswerRow) (score : Score) (z : ℤ) → IsScoreOf round rows score
    → (score.solved ≡ length round.puzzles → ⊥) → z ≡ pos score.points → z ≡ answer_points round rows
points_alone round rows score z is apart value =
    let all : are_all_solved round rows ≡ false = all_solved round rows score is
    ∙ other_number score.solved (length round.puzzles) apart in
    let bonus : bonus_of round rows ≡ pos 0 = rw all refl in
    value ∙ (ap (λ n. pos n) is.points ∙ (sym (plus_none (sum_by (points_for round rows) rows))
    ∙ ap (λ b. pos (sum_by (points_for round rows) rows) +ℤ b) (sym bonus)))
