-- Walks: joined, turned round, and what holds along them.
use Rattle.std.proofs.Common.{ℕ}
use Rattle.hall_grid.specs.Walk.{Walk, at, on}

-- what holds at the start and passes from a member to the next holds at the end
pub Walk-along : (IsNext : ℕ → ℕ → Type 0) (IsMember P : ℕ → Type 0) → ((b c : ℕ) → P b → IsNext b c → IsMember c → P c)
    → (a b : ℕ) → P a → Walk IsNext IsMember a b → P b
Walk-along IsNext IsMember P step a b p (at m) = p
Walk-along IsNext IsMember P step a b p (on {b = m} {c = c} w n k) =
    step m c (Walk-along IsNext IsMember P step a m p w) n k

pub Walk-end : (IsNext : ℕ → ℕ → Type 0) (IsMember : ℕ → Type 0) → (a b : ℕ) → Walk IsNext IsMember a b → IsMember b
Walk-end IsNext IsMember a b (at m) = m
Walk-end IsNext IsMember a b (on w n k) = k

pub Walk-start : (IsNext : ℕ → ℕ → Type 0) (IsMember : ℕ → Type 0) → (a b : ℕ) → Walk IsNext IsMember a b → IsMember a
Walk-start IsNext IsMember a b (at m) = m
Walk-start IsNext IsMember a b (on {b = m} w n k) = Walk-start IsNext IsMember a m w

pub Walk-join : (IsNext : ℕ → ℕ → Type 0) (IsMember : ℕ → Type 0)
    → (a b c : ℕ)
    → Walk IsNext IsMember a b
    → Walk IsNext IsMember b c
    → Walk IsNext IsMember a c
Walk-join IsNext IsMember a b c v (at m) = v
Walk-join IsNext IsMember a b c v (on {b = m} w n k) = on (Walk-join IsNext IsMember a b m v w) n k

pub Walk-reverse : (IsNext : ℕ → ℕ → Type 0) (IsMember : ℕ → Type 0) → ((a b : ℕ) → IsNext a b → IsNext b a)
    → (a b : ℕ) → Walk IsNext IsMember a b → Walk IsNext IsMember b a
Walk-reverse IsNext IsMember turn a b (at m) = at m
Walk-reverse IsNext IsMember turn a b (on {b = m} {c = c} w n k) =
    Walk-join IsNext IsMember c m a (on (at k) (turn m c n) (Walk-end IsNext IsMember a m w))
    (Walk-reverse IsNext IsMember turn a m w)

-- a walk over other members by another relation
pub Walk-map : (IsNext S : ℕ → ℕ → Type 0) (IsMember T : ℕ → Type 0) → ((a : ℕ) → IsMember a → T a)
    → ((a b : ℕ) → IsMember a → IsMember b → IsNext a b → S a b) → (a b : ℕ) → Walk IsNext IsMember a b → Walk S T a b
Walk-map IsNext S IsMember T members steps a b (at m) = at (members a m)
Walk-map IsNext S IsMember T members steps a b (on {b = m} {c = c} w n k) =
    on (Walk-map IsNext S IsMember T members steps a m w) (steps m c (Walk-end IsNext IsMember a m w) k n) (members c k)
