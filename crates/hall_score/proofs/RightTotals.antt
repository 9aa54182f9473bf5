-- The total of an entrant's rows is the one that the rules give, in whatever order they come.
use Rattle.std.proofs.Common.{arith, ◌≡◌, ◌≤◌, ◌<◌, ◌+◌, ◌-◌, ◌+ℤ◌, ◌-ℤ◌, ◌*ℤ◌, ◌==◌, ◌&&◌, ◌⊎◌, inl, inr, ℕ, zero, suc}
use Rattle.std.proofs.Common.{ℤ, pos, negsuc, true, cond, List, [], ◌∷◌, length, Contains, fold, is_some, refl, sym, ap}
use Rattle.std.proofs.Common.{subst, get_or, ◌∙◌, sum_by, nat_lt}
use Rattle.std.specs.Int.{int_div_euclid}
use Rattle.std.specs.List.{range_with_len}
use Rattle.std.specs.List.Sorted.{IsPermutation}
use Rattle.std.proofs.lemmas.List.Folds.{Any-from_list_any}
use Rattle.std.proofs.lemmas.List.FromFn.{length-range_with_len, get_or-range_with_len}
use Rattle.std.proofs.lemmas.List.Sums.{sum_by-cons, AllPass-from_list_all, list_all-from_AllPass}
use Rattle.std.proofs.lemmas.List.Sorted.{sum_by-IsPermutation}
use Rattle.std.proofs.lemmas.Int.{ints}
use Rattle.hall_policy.specs.World.{end_of, entry_at, ruling_points}
use Rattle.hall_policy.specs.declared.record.RoundRow.{RoundRow}
use Rattle.hall_policy.specs.declared.record.AnswerRow.{AnswerRow}
use Rattle.hall_policy.specs.declared.record.ProtestRow.{ProtestRow}
use Rattle.hall_score.specs.Total.{is_right, does_count, does_score, points_for, is_solved, are_all_solved, last_moment}
use Rattle.hall_score.specs.Total.{minutes_left, bonus_of, answer_points, protest_points}
use Rattle.hall_score.specs.Laws.{CountsAsRight, IsNumberIn, IsAllSolved, AreMinutes, IsBonus, upheld_points}
use Rattle.hall_score.specs.Laws.{TotalsAreRight, TotalsKeepNoOrder}
use Rattle.hall_score.proofs.Counting.{by_bool, two_parts, both_true, eqb_true, eqb_same, not_less, less, any_at}
use Rattle.hall_score.proofs.Counting.{sum_at, sum_by_number, gives_by, solves_counts, counts_solves}
use Rattle.hall_score.proofs.Permuted.{above, total_of_permutes}
use Rattle.hall_score.proofs.Scores.{no_points, entry_within, has_entry, true_false}
use Rattle.hall_score.proofs.Tried.{lt_true, lt_false, not_true}

-- ---- puzzles
-- a row gives something only to a puzzle of the round
own_number : (round : RoundRow) (answers : List AnswerRow) (row : AnswerRow) → (points_for round answers row ≡ 0)
    ⊎ ((1 ≤ row.key.number) × (row.key.number ≤ length round.puzzles))
own_number round answers row =
    by_bool ((points_for round answers row ≡ 0) ⊎ ((1 ≤ row.key.number) × (row.key.number ≤ length round.puzzles)))
    (does_score round answers row)
    (λ e. let parts = two_parts (is_some (entry_at round.puzzles row.key.number))
    (does_count round.round.mode answers row && is_right row) e in inr
    (entry_within round.puzzles row.key.number parts.0))
    (λ e. inl (no_points round answers row e))

-- ---- the answers that solve
-- an answer that scores solves its puzzle, which is one of the round's
score_solves : (round : RoundRow) (answers : List AnswerRow) (row : AnswerRow) → Contains answers row
    → does_score round answers row ≡ true → IsNumberIn round row.key.number
    × CountsAsRight round.round.mode row.key.number answers row
score_solves round answers row among scores =
    let parts = two_parts (is_some (entry_at round.puzzles row.key.number))
    (does_count round.round.mode answers row && is_right row) scores in
    let counts = two_parts (does_count round.round.mode answers row) (is_right row) parts.1 in (
      entry_within round.puzzles row.key.number parts.0,
      counts_solves round.round.mode row.key.number answers row
          (record { given = among; puzzle = refl }) counts.0 counts.1,
    )

-- an answer that solves a puzzle of the round scores
solves_score : (round : RoundRow) (answers : List AnswerRow) (number : ℕ) (row : AnswerRow) → IsNumberIn round number
    → CountsAsRight round.round.mode number answers row → Contains answers row × (row.key.number ≡ number)
    × (does_score round answers row ≡ true)
solves_score round answers number row within solves =
    let is = solves_counts round.round.mode number answers row solves in
    let entry : is_some (entry_at round.puzzles row.key.number) ≡ true = ap (λ k. is_some (entry_at round.puzzles k))
    is.0.puzzle ∙ has_entry round.puzzles number within.0 within.1 in (
      is.0.given,
      is.0.puzzle,
      both_true (is_some (entry_at round.puzzles row.key.number))
          (does_count round.round.mode answers row && is_right row) entry
          (both_true (does_count round.round.mode answers row) (is_right row) is.1 (eqb_same row.verdict 0 is.2)),
    )

-- a solved puzzle has an answer that solves it
solver : (round : RoundRow) (answers : List AnswerRow) (number : ℕ) → is_solved round answers number ≡ true
    → (row : AnswerRow) × CountsAsRight round.round.mode number answers row
solver round answers number e =
    let found = Any-from_list_any (λ row. (row.key.number == number) && does_score round answers row) answers e in
    let row = found.1 in
    let parts = two_parts (row.key.number == number) (does_score round answers row) found.4 in
    let solves = (score_solves round answers row (found.0, found.2, found.3) parts.1).1 in
    (row, subst (λ k. CountsAsRight round.round.mode k answers row) (eqb_true row.key.number number parts.0) solves)

solved : (round : RoundRow) (answers : List AnswerRow) (number : ℕ) (row : AnswerRow) → IsNumberIn round number
    → CountsAsRight round.round.mode number answers row → is_solved round answers number ≡ true
solved round answers number row within solves =
    let is = solves_score round answers number row within solves in
    any_at (λ row. (row.key.number == number) && does_score round answers row) answers row is.0
    (both_true (row.key.number == number) (does_score round answers row) (eqb_same row.key.number number is.1) is.2)

all_solved : (round : RoundRow) (answers : List AnswerRow) → are_all_solved round answers ≡ true
    → IsAllSolved round answers
all_solved round answers e number within =
    let count = length round.puzzles in
    let index : number - 1 < count = omega (arith, within.0, within.1) in
    let at : get_or (range_with_len 1 count) (number - 1) 0 ≡ number = get_or-range_with_len 1 count (number - 1) 0
    index ∙ omega (arith, within.0) in
    let in_range : number - 1 < length (range_with_len 1 count) = omega (arith, index, length-range_with_len 1 count) in
    let here = AllPass-from_list_all (is_solved round answers) (range_with_len 1 count) e (number - 1) 0 in_range in
    solver round answers number (ap (is_solved round answers) (sym at) ∙ here)

solved_all : (round : RoundRow) (answers : List AnswerRow) → IsAllSolved round answers
    → are_all_solved round answers ≡ true
solved_all round answers all = list_all-from_AllPass (is_solved round answers) (range_with_len 1 (length round.puzzles))
    (λ k d within.
    let count = length round.puzzles in
    let index : k < count = omega (arith, within, length-range_with_len 1 count) in
    let at = get_or-range_with_len 1 count k d index in
    let here = all (1 + k) (omega arith, omega (arith, index)) in
    ap (is_solved round answers) at ∙ solved round answers (1 + k) here.0 (omega arith, omega (arith, index)) here.1)

-- ---- the bonus
greatest : (round : RoundRow) (answers : List AnswerRow) (number : ℕ) (row : AnswerRow) → IsNumberIn round number
    → CountsAsRight round.round.mode number answers row → row.moment ≤ last_moment round answers
greatest round answers number row within solves =
    let is = solves_score round answers number row within solves in
    let last = last_moment round answers in
    not_less last row.moment (not_true (nat_lt last row.moment) (λ e.
    true_false (nat_lt last last)
    (above (does_score round answers) answers last ∙ any_at (λ r. does_score round answers r && nat_lt last r.moment)
    answers row is.0 (both_true (does_score round answers row) (nat_lt last row.moment) is.2 e))
    (lt_false last last (omega arith))))

abbrev IsReached : RoundRow → List AnswerRow → ℕ → Type 0
IsReached round answers moment =
    (number : ℕ) × (row : AnswerRow) × IsNumberIn round number × CountsAsRight round.round.mode number answers row
    × (row.moment ≡ moment)

reached : (round : RoundRow) (answers : List AnswerRow) (moment : ℕ) → last_moment round answers ≡ moment
    → 0 < length round.puzzles → IsAllSolved round answers → IsReached round answers moment
reached round answers zero is some all =
    let within : IsNumberIn round 1 = (omega arith, omega (arith, some)) in
    let one = all 1 within in
    let most = greatest round answers 1 one.0 within one.1 in
    (1, one.0, within, one.1, omega (arith, most, is))
reached round answers (suc before) is some all =
    let test = λ (r : AnswerRow). does_score round answers r && nat_lt before r.moment in
    let found = Any-from_list_any test answers (sym (above (does_score round answers) answers before)
    ∙ lt_true before (last_moment round answers) (omega (arith, is))) in
    let row = found.1 in
    let parts = two_parts (does_score round answers row) (nat_lt before row.moment) found.4 in
    let solves = score_solves round answers row (found.0, found.2, found.3) parts.0 in
    let least = less before row.moment parts.1 in
    let most = greatest round answers row.key.number row solves.0 solves.1 in
    (row.key.number, row, solves.0, solves.1, omega (arith, least, most, is))

minutes_are : (moment end : ℕ) (left : ℤ) → pos end -ℤ pos moment ≡ left
    → AreMinutes moment end (int_div_euclid left (pos 60))
minutes_are moment end (pos n) is = record { fit = omega (arith, ints, is); no_more = omega (arith, ints, is) }
minutes_are moment end (negsuc n) is = record { fit = omega (arith, ints, is); no_more = omega (arith, ints, is) }

bonus_is : (round : RoundRow) (answers : List AnswerRow) → 0 < length round.puzzles
    → IsBonus round answers (bonus_of round answers)
bonus_is round answers some =
    let last = last_moment round answers in
    let minutes = minutes_left round last in
    by_bool (IsBonus round answers (bonus_of round answers)) (are_all_solved round answers)
    (λ e.
    let all = all_solved round answers e in
    inl (
      all,
      (
        last,
        minutes,
        record { reached = reached round answers last refl some all; greatest = greatest round answers },
        minutes_are last (end_of round.round) (pos (end_of round.round) -ℤ pos last) refl,
        ap (λ b. cond b (pos round.round.bonus *ℤ minutes) (pos 0)) e,
      ),
    ))
    (λ e. inr (
      (λ all. true_false (are_all_solved round answers) (solved_all round answers all) e),
      ap
          (λ b. cond b (pos round.round.bonus *ℤ minutes) (pos 0)) e,
    ))

-- ---- protests
upheld : (sum : ℤ) (rows : List ProtestRow) → fold (λ z row. z +ℤ ruling_points row.ruling) sum rows ≡ sum +ℤ
    upheld_points rows
upheld sum [] = omega (arith, ints)
upheld sum (row ∷ rows) = let rest = upheld (sum +ℤ ruling_points row.ruling) rows in omega (arith, ints, rest)

-- ---- the total
pub totals_are_right : TotalsAreRight
totals_are_right round answers protests some numbered =
    let count = length round.puzzles in
    let points : sum_by (points_for round answers) answers ≡ sum_by (sum_at (points_for round answers) answers)
    (range_with_len 1 count) = sum_by_number (points_for round answers) count answers (own_number round answers) in
    let ruled : protest_points protests ≡ upheld_points protests = let h = upheld (pos 0) protests in omega
    (arith, ints, h) in
    record {
      given = sum_at (points_for round answers) answers;
      each = λ number entry at. gives_by round.round.mode round answers numbered number entry at refl;
      bonus = bonus_of round answers;
      bonus_is = bonus_is round answers some;
      total_is = ap (λ n. (pos n +ℤ bonus_of round answers) +ℤ protest_points protests) points
          ∙ ap (λ z. (pos (sum_by (sum_at (points_for round answers) answers) (range_with_len 1 count)) +ℤ bonus_of
          round answers) +ℤ z) ruled;
    }

-- ---- the order of rows
abbrev up_part : ℤ → ℕ
up_part (pos n) = n
up_part (negsuc n) = 0

abbrev down_part : ℤ → ℕ
down_part (pos n) = 0
down_part (negsuc n) = suc n

both_parts : (z : ℤ) → z +ℤ pos (down_part z) ≡ pos (up_part z)
both_parts (pos n) = omega (arith, ints)
both_parts (negsuc n) = omega (arith, ints)

parts_sum : (rows : List ProtestRow) → upheld_points rows +ℤ pos
    (sum_by (λ row. down_part (ruling_points row.ruling)) rows) ≡ pos
    (sum_by (λ row. up_part (ruling_points row.ruling)) rows)
parts_sum [] = refl
parts_sum (row ∷ rows) =
    let here = both_parts (ruling_points row.ruling) in
    let rest = parts_sum rows in
    let down = sum_by-cons (λ r. down_part (ruling_points r.ruling)) row rows in
    let up = sum_by-cons (λ r. up_part (ruling_points r.ruling)) row rows in
    omega (arith, ints, here, rest, down, up)

upheld_permutes : (protests others : List ProtestRow) → IsPermutation protests others
    → protest_points protests ≡ protest_points others
upheld_permutes protests others moved =
    let one = upheld (pos 0) protests in
    let other = upheld (pos 0) others in
    let left = parts_sum protests in
    let right = parts_sum others in
    let down = sum_by-IsPermutation (λ row. down_part (ruling_points row.ruling)) protests others moved in
    let up = sum_by-IsPermutation (λ row. up_part (ruling_points row.ruling)) protests others moved in
    omega (arith, ints, one, other, left, right, down, up)

pub totals_keep_no_order : TotalsKeepNoOrder
totals_keep_no_order round answers other_answers protests other_protests moved ruled =
    total_of_permutes round answers other_answers protests moved
    ∙ ap (λ z. answer_points round other_answers +ℤ z) (upheld_permutes protests other_protests ruled)
