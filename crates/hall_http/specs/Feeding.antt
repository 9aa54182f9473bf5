-- What one read has a connection hear.
use Rattle.std.specs.Prelude.{◌≡◌, ◌<◌, ◌≤◌, ◌⊎◌, ℕ, List, [], length, Option}
use Rattle.std.specs.Io.KnownBytes.{Consumes, IsAtEnd}
use Rattle.hall_http.specs.Steps.{IsAfterHearing, IsAfterEnd}
use Rattle.hall_http.specs.declared.connection.Connection.{Connection}

-- a read gave these bytes, which were heard, or told the end of the input; none failed
abbrev pub IsFed : Option (List ℕ) → Option (List ℕ) → ℕ → ℕ → Connection → Connection → Type 0
IsFed stream after failed fails k l =
    (fails ≡ failed)
    × (((piece : List ℕ) × (0 < length piece) × (length piece ≤ 4096) × Consumes stream after piece
    × IsAfterHearing k piece l)
    ⊎ (Consumes stream after [] × IsAtEnd after × IsAfterEnd k l))
