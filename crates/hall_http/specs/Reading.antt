-- How a stream is read, and its items answered, one after another.
use Rattle.std.specs.Prelude.{◌≡◌, ◌<◌, ◌≤◌, ◌+◌, ◌++◌, ℕ, List, [], ◌∷◌, length}

-- These items were answered, in this order; so many reads gave bytes, before them, between them and after; and these
-- bytes wait. A read is made only where the bytes that wait are unfinished, and puts 1 to 4,096 bytes behind them. An
-- item is answered where its bytes stand at the front, and takes them off.
pub data Reading {X : Type 0} (bytes_of : X → List ℕ) (IsUnfinished : List ℕ → Type 0)
    : List X → ℕ → List ℕ → Type 0 where
  at_first : Reading bytes_of IsUnfinished [] 0 []
  after_read : (xs : List X) (n : ℕ) (waiting piece : List ℕ) → Reading bytes_of IsUnfinished xs n waiting
      → IsUnfinished waiting → 0 < length piece → length piece ≤ 4096
      → Reading bytes_of IsUnfinished xs (n + 1) (waiting ++ piece)
  after_answer : (xs : List X) (n : ℕ) (waiting : List ℕ) (x : X)
      → Reading bytes_of IsUnfinished xs n (bytes_of x ++ waiting)
      → Reading bytes_of IsUnfinished (xs ++ x ∷ []) n waiting

-- the last of the items was answered after the last of so many reads, and these bytes stood behind it
pub record IsLastRead {X : Type 0} (bytes_of : X → List ℕ) (IsUnfinished : List ℕ → Type 0) (before : List X) (last : X)
    (xs : List X) (n : ℕ) (waiting : List ℕ) : Type 0 where
  pub all : xs ≡ before ++ last ∷ []
  pub reading : Reading bytes_of IsUnfinished before n (bytes_of last ++ waiting)
