use Rattle.std.proofs.Common.{◌≡◌, ◌≤◌, ◌+ℤ◌, ℤ, unsigned_abs, to_z, of_z, w64, arith}
use Rattle.std.proofs.lemmas.Int.{ints}
use Rattle.hall_score.proofs.TallyLemmas.{closed_last}
use Rattle.hall_score.proofs.tally.Tally.close.Goals as goal

-- a small sum fits
sum_fits : (a b w : ℤ) → b ≡ w → unsigned_abs a ≤ 200000000000 → unsigned_abs b ≤ 4294967295000
    → to_z w64 (of_z w64 (to_z w64 (of_z w64 a) +ℤ to_z w64 (of_z w64 b))) ≡ a +ℤ w
sum_fits a b w same small other = omega (arith, ints, same)

pub returns-in_ok-push-clause-ok : goal.returns-in_ok-push-clause-ok
returns-in_ok-push-clause-ok c =
    closed_last c.args.self.now c.in-Some.entrant _ c.points.result _ c.push.new.self c.in-Some.is
    c.in_ok-clone.ensures.cases
    (sum_fits c.points.result c.at.result.points _ c.at.ensures.points c.points.ensures.bound (omega (arith, ints)))
    c.points.ensures.value c.in_ok-push.ensures.ok
