-- The nodes of a plain tree.
use Rattle.std.proofs.Common.{◌≡◌, ℕ, zero, suc, ◌+◌, ◌*◌, ◌^◌, ◌<◌, ◌≤◌, arith, inl, inr}
use Rattle.std.proofs.Math.Nat.{pow-suc, pow-zero}
use Rattle.std.proofs.lemmas.Bool.{cases_eq}
use Rattle.hall_solve.specs.Question.{plain_tree}

-- a node, and a tree below it for each value
pub plain_tree-suc : (k n : ℕ) → plain_tree k (suc n) ≡ 1 + k * plain_tree k n
plain_tree-suc k zero =
    let one : k ^ 0 * k ≡ k = (rw (pow-zero k) (omega arith)) in
    omega (arith, pow-suc k 0, one)
plain_tree-suc k (suc n) = omega (arith, plain_tree-suc k n, pow-suc k (suc n))

pub plain_tree-le : (k m n : ℕ) → m ≤ n → plain_tree k m ≤ plain_tree k n
plain_tree-le k m zero h = let e : m ≡ 0 = omega arith in rw e (omega arith)
plain_tree-le k m (suc n) h =
    elim (cases_eq m (suc n)) [
      | inl e ↦ rw e (omega arith)
      | inr ne ↦ omega (arith, plain_tree-le k m n (omega arith))
    ]

pub plain_tree-pos : (k n : ℕ) → 0 < plain_tree k n
plain_tree-pos k zero = omega arith
plain_tree-pos k (suc n) = omega (arith, plain_tree-pos k n)
