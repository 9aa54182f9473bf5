-- What was written of some bytes, and which calls failed.
use Rattle.std.specs.Prelude.{◌≡◌, ◌<◌, ◌++◌, ℕ, Option, List, length}
use Rattle.std.specs.Io.KnownBytes.{Appends}
use Rattle.hall_grid.specs.Device.{Rises}

-- a first part of the bytes was written, perhaps none of them, and at least the last one wasn't
abbrev pub WritesPart : Option (List ℕ) → Option (List ℕ) → List ℕ → Type 0
WritesPart old new bytes =
    (front rest : List ℕ) × (bytes ≡ front ++ rest) × (0 < length rest) × Appends old new front

-- by the counts of failed reads and of failed writes, before and after: no call failed
abbrev pub NoneFailed : ℕ → ℕ → ℕ → ℕ → Type 0
NoneFailed failed fails broke breaks = (fails ≡ failed) × (breaks ≡ broke)

-- one read failed, and no other call
abbrev pub ReadFailed : ℕ → ℕ → ℕ → ℕ → Type 0
ReadFailed failed fails broke breaks = Rises failed fails × (breaks ≡ broke)

-- one write failed, and no other call
abbrev pub WriteFailed : ℕ → ℕ → ℕ → ℕ → Type 0
WriteFailed failed fails broke breaks = (fails ≡ failed) × Rises broke breaks
