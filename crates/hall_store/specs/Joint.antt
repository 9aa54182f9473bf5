-- Answers that are stored together.
use Rattle.std.specs.Prelude.{ℕ}

-- so many are at most
abbrev pub most_together : ℕ
most_together = 64
