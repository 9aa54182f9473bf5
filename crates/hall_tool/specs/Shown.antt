-- A text that is written: a page of help, the version, or a line that says no more than itself.
use Rattle.std.specs.Prelude.{◌≡◌, ℕ, List, Option, Result, Ok, Err}
use Rattle.std.specs.Io.KnownBytes.{Appends}
use Rattle.hall_grid.specs.Device.{Rises, Tally}
use Rattle.hall_http.specs.Device.{WritesPart}
use Rattle.hall_tool.specs.declared.fault.ToolFault.{ToolFault}
use Rattle.hall_tool.specs.declared.fault.ToolFault.TheVariants.{Device}

-- the text was written, no write failed, and the status is this; at a device's fault, a first part of it
abbrev pub IsShownBy : {W : Type 0} → ℕ → (W → Option (List ℕ)) → List ℕ → Tally W → Tally W → Result ℕ ToolFault
    → Type 0
IsShownBy ends contents text writer written (Ok status) =
    (status ≡ ends) × Appends (contents writer.device) (contents written.device) text
    × (written.failures ≡ writer.failures)
IsShownBy ends contents text writer written (Err fault) =
    (fault ≡ Device) × Rises writer.failures written.failures
    × WritesPart (contents writer.device) (contents written.device) text

-- so it was, and the status is 0
abbrev pub IsShown : {W : Type 0} → (W → Option (List ℕ)) → List ℕ → Tally W → Tally W → Result ℕ ToolFault → Type 0
IsShown = IsShownBy 0
