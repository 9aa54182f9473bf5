-- How a command that writes one line of its input ends.
use Rattle.std.proofs.Common.{◌≡◌, ◌⊎◌, ap, ℕ, List, inl, inr}
use Rattle.std.specs.Prelude.{Result, Ok, Err, IsErrOf}
use Rattle.std.specs.Io.KnownBytes.{Appends}
use Rattle.hall_grid.specs.Device.{Rises, Tally}
use Rattle.hall_http.specs.Device.{NoneFailed, WritesPart}
use Rattle.hall_tool.specs.Input.{IsInput}
use Rattle.hall_tool.specs.LineRun.{IsLineRun}
use Rattle.hall_tool.specs.Machine.{Streams}
use Rattle.hall_tool.specs.declared.fault.ToolFault.{ToolFault}
use Rattle.hall_tool.specs.declared.fault.ToolFault.TheVariants as tool

module _ {R W : Type 0} (Writes : List ℕ → List ℕ → ℕ → Type 0) (known : Streams R W) (reader read : Tally R)
    (writer written : Tally W) where
  abbrev Ran : Result ℕ ToolFault → Type 0
  Ran result = IsLineRun Writes known reader read writer written result

  -- a line was written
  pub told_run : (status : ℕ) → ((input : List ℕ) × (line : List ℕ) × IsInput (known.remaining reader.device) input
      × Writes input line status × Appends (known.contents writer.device) (known.contents written.device) line)
      → NoneFailed reader.failures read.failures writer.failures written.failures → Ran (Ok status)
  told_run status told none = record {
    line = told;
    same = none;
    device = λ is. absurd cc;
    part = λ is. absurd cc;
    memory = λ is. absurd cc;
    no_store = λ is. absurd cc;
  }

  -- the reader failed, or memory was wanting for what it gave
  pub unread_run : (fault : ToolFault) → (fault ≡ tool.Memory) ⊎ (fault ≡ tool.Device)
      → (IsErrOf {T = ℕ} (Err fault) tool.Device → Rises reader.failures read.failures) → written ≡ writer
      → Ran (Err fault)
  unread_run fault cause failed same = record {
    line = tt;
    same = tt;
    device = λ is. inl (failed is, ap (λ (t : Tally W). t.failures) same);
    part = λ is. inl same;
    memory = λ is. same;
    no_store = λ is. elim cause [ inl e ↦ absurd cc | inr e ↦ absurd cc ];
  }

  -- memory was wanting for the line
  pub wanting_run : written ≡ writer → Ran (Err tool.Memory)
  wanting_run same = record {
    line = tt;
    same = tt;
    device = λ is. absurd cc;
    part = λ is. absurd cc;
    memory = λ is. same;
    no_store = λ is. absurd cc;
  }

  -- the writer failed, and a first part of the line was written
  pub broken_run : read.failures ≡ reader.failures → Rises writer.failures written.failures
      → ((input : List ℕ) × (line : List ℕ) × (status : ℕ) × IsInput (known.remaining reader.device) input
      × Writes input line status × WritesPart (known.contents writer.device) (known.contents written.device) line)
      → Ran (Err tool.Device)
  broken_run unfailed failed told = record {
    line = tt;
    same = tt;
    device = λ is. inr (unfailed, failed);
    part = λ is. inr told;
    memory = λ is. absurd cc;
    no_store = λ is. absurd cc;
  }
