use Rattle.std.proofs.Common.{◌≡◌, ◌≤◌, ◌+ℤ◌, ℕ, ℤ, pos, unsigned_abs, arith, ap, length, to_z, of_z, w64}
use Rattle.std.proofs.lemmas.Int.{ints}
use Rattle.hall_score.proofs.ProgressLemmas.{points_with_bonus, points_alone}
use Rattle.hall_score.proofs.entrant.Progress.points.Goals as goal

-- a small sum fits
sum_fits : (n : ℕ) (b w : ℤ) → n ≤ 99000 → b ≡ w → unsigned_abs b ≤ 100000000000
    → to_z w64 (of_z w64 (to_z w64 n +ℤ to_z w64 (of_z w64 b))) ≡ pos n +ℤ w
sum_fits n b w few same small = omega (arith, ints, same)

pub returns-then-score-as_slice-clause-value : goal.returns-then-score-as_slice-clause-value
returns-then-score-as_slice-clause-value c = λ rows is.
    let score = c.score-score.result in
    points_with_bonus c.args.round.now rows score _ (c.score-score.ensures.score c.args.round.now rows is)
    (omega (arith, ap length c.as_slice.ensures.value))
    (sum_fits score.points c.bonus_from-points.result _ (omega arith) c.bonus_from-points.ensures.value
    c.bonus_from-points.ensures.bound)

pub returns-else-score-as_slice-clause-value : goal.returns-else-score-as_slice-clause-value
returns-else-score-as_slice-clause-value c = λ rows is.
    points_alone c.args.round.now rows c.score-score.result _ (c.score-score.ensures.score c.args.round.now rows is)
    (λ same. omega (arith, ap length c.as_slice.ensures.value)) (omega (arith, ints))
