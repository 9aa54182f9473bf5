-- Sets of values, as the bits of a number.
use Rattle.std.specs.Prelude.{◌≡◌, ◌≢◌, ℕ}
use Rattle.std.specs.Int.{bit_at}

-- the set has this value
abbrev pub Has : ℕ → ℕ → Type 0
Has values value = bit_at values value ≡ 1

-- the set has two values
pub record HasTwo (values : ℕ) : Type 0 where
  pub first : ℕ
  pub second : ℕ
  pub differ : first ≢ second
  pub has_first : Has values first
  pub has_second : Has values second
