-- A command that reads an input and writes one line of it.
use Rattle.std.specs.Prelude.{◌≡◌, ◌⊎◌, ℕ, List, Result, IfOk, IsErrOf}
use Rattle.std.specs.Io.KnownBytes.{Appends}
use Rattle.hall_grid.specs.Device.{Tally}
use Rattle.hall_http.specs.Device.{NoneFailed, ReadFailed, WriteFailed, WritesPart}
use Rattle.hall_tool.specs.Input.{IsInput}
use Rattle.hall_tool.specs.Machine.{Streams}
use Rattle.hall_tool.specs.declared.fault.ToolFault.{ToolFault}
use Rattle.hall_tool.specs.declared.fault.ToolFault.TheVariants as tool

-- A line for the input was written, the status that goes with it answered, and no call failed; at a device's fault,
-- one call failed and no other, and a first part of the line was written, perhaps none of it; out of memory left the
-- writer as it was. No other fault is answered.
pub record IsLineRun {R W : Type 0} (Writes : List ℕ → List ℕ → ℕ → Type 0) (known : Streams R W)
    (reader read : Tally R) (writer written : Tally W) (result : Result ℕ ToolFault) : Type 0 where
  pub line : IfOk result (λ status. (input : List ℕ) × (line : List ℕ) × IsInput (known.remaining reader.device) input
      × Writes input line status × Appends (known.contents writer.device) (known.contents written.device) line)
  pub same : IfOk result (λ status. NoneFailed reader.failures read.failures writer.failures written.failures)
  pub device : IsErrOf result tool.Device → ReadFailed reader.failures read.failures writer.failures written.failures
      ⊎ WriteFailed reader.failures read.failures writer.failures written.failures
  pub part : IsErrOf result tool.Device → (written ≡ writer)
      ⊎ ((input : List ℕ) × (line : List ℕ) × (status : ℕ) × IsInput (known.remaining reader.device) input
      × Writes input line status × WritesPart (known.contents writer.device) (known.contents written.device) line)
  pub memory : IsErrOf result tool.Memory → written ≡ writer
  pub no_store : IsErrOf result tool.Store → ⊥
