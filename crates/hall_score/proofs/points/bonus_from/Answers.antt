use Rattle.std.proofs.Common.{arith, ℕ, ◌≤◌, ◌*◌, ◌*ℤ◌, ℤ, unsigned_abs, to_z, of_z, w64}
use Rattle.std.proofs.lemmas.Int.{ints, unsigned_abs-mul}
use Rattle.std.proofs.Math.Nat.{mul-le-mul}
use Rattle.hall_score.proofs.points.bonus_from.Goals as goal

product_bound : (a b : ℤ) (m n : ℕ) → unsigned_abs a ≤ m → unsigned_abs b ≤ n → unsigned_abs (a *ℤ b) ≤ m * n
product_bound a b m n p q = omega (arith, unsigned_abs-mul a b, mul-le-mul p q)

pub returns-clause-bound : goal.returns-clause-bound
returns-clause-bound c =
    let small = product_bound (to_z w64 c.get.result) (to_z w64 (of_z w64 c.minutes_left.result)) 1000 100000000
    (omega (arith, ints)) (omega (arith, ints)) in
    omega (arith, ints, small)
