-- What one more answer changes in what answers give.
use Rattle.std.proofs.Common.{arith, ◌≡◌, ◌≤◌, ◌<◌, ◌+◌, ◌==◌, ◌&&◌, ◌||◌, ℕ, zero, suc, Bool, true, false, List, []}
use Rattle.std.proofs.Common.{◌∷◌, ◌++◌, length, max, All, refl, ap, subst, get_or, ◌∙◌, Some, None, is_some, slice_get}
use Rattle.std.specs.List.{range_with_len}
use Rattle.std.proofs.lemmas.List.Elements.{All-head, All-tail}
use Rattle.std.proofs.lemmas.Option.{slice_get_within}
use Rattle.std.proofs.lemmas.Bool.Decides.{nat_tests}
use Rattle.hall_policy.specs.World.{entry_at}
use Rattle.hall_policy.specs.declared.record.Entry.{Entry}
use Rattle.hall_policy.specs.declared.record.AnswerRow.{AnswerRow}
use Rattle.hall_policy.specs.declared.record.RoundRow.{RoundRow}
use Rattle.hall_score.specs.Total.{same_puzzle, does_score, points_for}
use Rattle.hall_score.specs.Progress.{IsScoreOf}
use Rattle.hall_score.specs.declared.entrant.Score.{Score}
use Rattle.hall_score.proofs.Gains.{IsGain, gain_append, gain_none, gain_one, gain_agree, solved_by, solved_none}
use Rattle.hall_score.proofs.Apart.{IsSameFor, same_for, untouched_left, untouched_right}

abbrev pub numbers : RoundRow → List ℕ
numbers round = range_with_len 1 (length round.puzzles)

pub gain_of : (round : RoundRow) (rows : List AnswerRow) (score : Score) → IsScoreOf round rows score
    → IsGain (numbers round) (does_score round rows) (points_for round rows) rows score.points score.solved score.last
gain_of round rows score is = record { points_are = is.points; solved_are = is.solved; last_is = is.last }

pub score_of : (round : RoundRow) (rows : List AnswerRow) (score : Score) (p q l : ℕ)
    → IsGain (numbers round) (does_score round rows) (points_for round rows) rows p q l → score.points ≡ p
    → score.solved ≡ q → score.last ≡ l → IsScoreOf round rows score
score_of round rows score p q l gain ep eq el = record {
  points = ep ∙ gain.points_are;
  solved = eq
      ∙ gain.solved_are;
  last = el ∙ gain.last_is;
}

-- ---- tests
and_first : (a b : Bool) → (a && b) ≡ true → a ≡ true
and_first true b h = refl
and_first false b h = h

pub true_false : (a : Bool) → a ≡ true → a ≡ false → ⊥
true_false a e f = cc

eqb_true : (a b : ℕ) → (a == b) ≡ true → a ≡ b
eqb_true a b e = grind (arith, nat_tests)

-- a row that doesn't score gives nothing
pub no_points : (round : RoundRow) (rows : List AnswerRow) (row : AnswerRow) → does_score round rows row ≡ false
    → points_for round rows row ≡ 0
no_points round rows row none = rw none refl

-- ---- answers to earlier puzzles, and to a later one
other_puzzle : (a b : AnswerRow) → (a.key.number ≡ b.key.number → ⊥) → same_puzzle a b ≡ false
other_puzzle a b apart = grind (arith, nat_tests)

solved_among : (s : AnswerRow → Bool) (P : ℕ → Type 0) (rows : List AnswerRow) (k : ℕ)
    → All (λ row. P row.key.number) rows → solved_by s rows k ≡ true → P k
solved_among s P [] k all e = absurd (cc)
solved_among s P (row ∷ rows) k all e =
    elim (row.key.number == k) as (λ b. (row.key.number == k) ≡ b → ((b && s row) || solved_by s rows k) ≡ true → P k) [
      | true ↦ λ same f. subst P (eqb_true row.key.number k same) (All-head (λ row. P row.key.number) row rows all)
      | false ↦ λ same f. solved_among s P rows k (All-tail (λ row. P row.key.number) row rows all) f
    ] refl e

pub score_append : (round : RoundRow) (xs ys : List AnswerRow) (m : ℕ) (a b c : Score) → IsScoreOf round xs a
    → IsScoreOf round ys b → All (λ row. row.key.number < m) xs → All (λ row. row.key.number ≡ m) ys
    → c.points ≡ a.points + b.points → c.solved ≡ a.solved + b.solved → c.last ≡ max a.last b.last
    → IsScoreOf round (xs ++ ys) c
score_append round xs ys m a b c one other below here ep eq el =
    let left : (k : ℕ) (d : AnswerRow) → k < length xs → IsSameFor round (xs ++ ys) xs (get_or xs k d) = λ k d within.
    same_for round (xs ++ ys) xs (get_or xs k d) (untouched_left round.round.mode xs ys (get_or xs k d)
    (record {
      others = λ j e also. let h = below k d within in let g = here j e also in other_puzzle (get_or ys j e)
          (get_or xs k d) (λ same. omega arith);
    })) in
    let right : (k : ℕ) (d : AnswerRow) → k < length ys → IsSameFor round (xs ++ ys) ys (get_or ys k d) = λ k d within.
    same_for round (xs ++ ys) ys (get_or ys k d) (untouched_right round.round.mode xs ys (get_or ys k d)
    (record {
      others = λ j e also. let h = here k d within in let g = below j e also in other_puzzle (get_or xs j e)
          (get_or ys k d) (λ same. omega arith);
    })) in
    let first = gain_agree (numbers round) (does_score round (xs ++ ys)) (does_score round xs)
    (points_for round (xs ++ ys)) (points_for round xs) xs a.points a.solved a.last
    (λ k d within. (left k d within).scores) (λ k d within. (left k d within).gives) (gain_of round xs a one) in
    let second = gain_agree (numbers round) (does_score round (xs ++ ys)) (does_score round ys)
    (points_for round (xs ++ ys)) (points_for round ys) ys b.points b.solved b.last
    (λ k d within. (right k d within).scores) (λ k d within. (right k d within).gives) (gain_of round ys b other) in
    let both = gain_append (numbers round) (does_score round (xs ++ ys)) (points_for round (xs ++ ys)) xs ys a.points
    a.solved a.last b.points b.solved b.last first second
    (λ k p q.
    let lower : k < m = solved_among (does_score round (xs ++ ys)) (λ n. n < m) xs k below p in
    let same : k ≡ m = solved_among (does_score round (xs ++ ys)) (λ n. n ≡ m) ys k here q in
    omega arith) in
    score_of round (xs ++ ys) c (a.points + b.points) (a.solved + b.solved) (max a.last b.last) both ep eq el

-- ---- one more answer to the same puzzle
-- a number with an entry is one of the round's
pub entry_within : (entries : List Entry) (k : ℕ) → is_some (entry_at entries k) ≡ true → (1 ≤ k) × (k ≤ length entries)
entry_within entries zero e = absurd (cc)
entry_within entries (suc k) e = elim (slice_get entries k) as
    (λ o. slice_get entries k ≡ o → is_some o ≡ true → (1 ≤ suc k) × (suc k ≤ length entries)) [
      | None ↦ λ at none. absurd (cc)
      | Some entry ↦ λ at some. let within = slice_get_within entries k entry at in (omega arith, omega arith)
    ] refl e

-- and each number of the round has an entry
pub entry_of : (entries : List Entry) (k : ℕ) → 1 ≤ k → k ≤ length entries → (entry : Entry)
    × (entry_at entries k ≡ Some entry)
entry_of entries zero least most = absurd (omega arith)
entry_of [] (suc k) least most = absurd (omega arith)
entry_of (entry ∷ entries) (suc zero) least most = (entry, refl)
entry_of (entry ∷ entries) (suc (suc k)) least most = entry_of entries (suc k) (omega arith) (omega arith)

pub has_entry : (entries : List Entry) (k : ℕ) → 1 ≤ k → k ≤ length entries → is_some (entry_at entries k) ≡ true
has_entry entries k least most = ap is_some (entry_of entries k least most).1

-- where none of the rows scores, all that they give is the last one's
pub only_last : (round : RoundRow) (rows : List AnswerRow) (row : AnswerRow) (c : Score)
    → All (λ before. does_score round (rows ++ row ∷ []) before ≡ false) rows
    → does_score round (rows ++ row ∷ []) row ≡ true → c.points ≡ points_for round (rows ++ row ∷ []) row → c.solved ≡ 1
    → c.last ≡ row.moment → IsScoreOf round (rows ++ row ∷ []) c
only_last round rows row c none scores ep eq el =
    let all = rows ++ row ∷ [] in
    let entry = entry_within round.puzzles row.key.number (and_first _ _ scores) in
    let before = gain_none (numbers round) (does_score round all) (points_for round all) rows none
    (λ k d within. no_points round all (get_or rows k d) (none k d within)) in
    let here = gain_one (length round.puzzles) (does_score round all) (points_for round all) row scores entry.0
    entry.1 in
    let both = gain_append (numbers round) (does_score round all) (points_for round all) rows (row ∷ []) 0 0 0
    (points_for round all row) 1 row.moment before here
    (λ k p q. true_false (solved_by (does_score round all) rows k) p
    (solved_none (does_score round all) rows k none)) in
    score_of round all c (0 + points_for round all row) (0 + 1) (max 0 row.moment) both (omega (arith, ep))
    (omega (arith, eq)) (omega (arith, el))

pub none_scores : (round : RoundRow) (rows : List AnswerRow) (c : Score)
    → All (λ before. does_score round rows before ≡ false) rows → c.points ≡ 0 → c.solved ≡ 0 → c.last ≡ 0
    → IsScoreOf round rows c
none_scores round rows c none ep eq el =
    score_of round rows c 0 0 0 (gain_none (numbers round) (does_score round rows) (points_for round rows) rows none
    (λ k d within. no_points round rows (get_or rows k d) (none k d within))) ep eq el
