-- Texts of printable ASCII.
use Rattle.std.specs.Prelude.{ℕ, ◌≤◌, ◌&&◌, Bool, List, length, nat_le, All, IsTrue}

-- bytes 32 to 126
abbrev pub is_printable : ℕ → Bool
is_printable b = nat_le 32 b && nat_le b 126

-- so many bytes at least, and so many at most, each of printable ASCII
pub record IsPrintableText (least most : ℕ) (bytes : List ℕ) : Type 0 where
  pub some : least ≤ length bytes
  pub few : length bytes ≤ most
  pub printable : All (λ byte. IsTrue (is_printable byte)) bytes
