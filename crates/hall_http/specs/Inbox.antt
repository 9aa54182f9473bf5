-- What one read of a stream adds to the bytes that wait.
use Rattle.std.specs.Prelude.{◌≡◌, ◌<◌, ◌≤◌, ◌++◌, ℕ, List, [], length, Option, Result, Ok, Err, Bool, true, false}
use Rattle.std.specs.Io.KnownBytes.{Consumes, IsAtEnd}
use Rattle.hall_grid.specs.Device.{Rises}
use Rattle.hall_http.specs.declared.inbox.ReadFault.{ReadFault}
use Rattle.hall_http.specs.declared.inbox.ReadFault.TheVariants as fault

-- Some bytes were read behind the unread ones, or the input is at its end. A refused read took none. Memory is refused
-- only where more than 77,824 bytes wait, and some bytes may then be lost.
abbrev pub ReadsMore : Option (List ℕ) → Option (List ℕ) → List ℕ → List ℕ → ℕ → ℕ
    → Result Bool ReadFault → Type 0
ReadsMore stream after old new failed fails (Ok true) =
    (piece : List ℕ) × (0 < length piece) × (length piece ≤ 4096) × (new ≡ old ++ piece)
    × Consumes stream after piece × (fails ≡ failed)
ReadsMore stream after old new failed fails (Ok false) =
    (new ≡ old) × Consumes stream after [] × IsAtEnd after × (fails ≡ failed)
ReadsMore stream after old new failed fails (Err fault.Device) =
    (new ≡ old) × Consumes stream after [] × Rises failed fails
ReadsMore stream after old new failed fails (Err fault.Memory) =
    (77824 < length old) × (piece : List ℕ) × Consumes stream after piece × (fails ≡ failed)
