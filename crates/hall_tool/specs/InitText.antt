-- What is written of an entry list that is imported into a file, and the exit status.
use Rattle.std.specs.Prelude.{◌≡◌, ℕ, List, ◌++◌, codes, decimal, Result, IfOk, IsErrOf}
use Rattle.std.specs.Io.KnownBytes.{Appends}
use Rattle.hall_grid.specs.Device.{Rises, Tally}
use Rattle.hall_store.specs.Store.{Content, IsSettled, KeptWorld, Leads, WritesOnce}
use Rattle.hall_desk.specs.Desk.{SaneThen}
use Rattle.hall_desk.specs.Sane.{Sane}
use Rattle.hall_http.specs.Device.{WritesPart}
use Rattle.hall_tool.specs.declared.fault.ToolFault.{ToolFault}
use Rattle.hall_tool.specs.declared.fault.ToolFault.TheVariants as tool
use Rattle.hall_tool.specs.declared.seed.Seeded.{Seeded}
use Rattle.hall_tool.specs.declared.seed.Seeded.TheVariants.{Refused, Denied, Added}
use Rattle.hall_tool.specs.JudgeText.{on_own_line}
use Rattle.hall_tool.specs.Machine.{Kinds}
use Rattle.hall_tool.specs.SeedText.{IsSeeded, StopsInList, ListCanFail, seeded_line, seeded_status}

-- how many people were added, on a line
abbrev pub added_line : ℕ → List ℕ
added_line count = codes "added " ++ on_own_line (decimal count)

-- a refusal or denial, or how many people were added, as it is written
abbrev pub init_line : Seeded → List ℕ
init_line (Refused refusal) = seeded_line (Refused refusal)
init_line (Denied rule) = seeded_line (Denied rule)
init_line (Added count) = added_line count

-- what came of the list, as it is written, and the exit status
abbrev pub InitText : List ℕ → Content → Content → List ℕ → ℕ → Type 0
InitText list old new line status =
    (seeded : Seeded) × IsSeeded list old new seeded × (line ≡ init_line seeded) × (status ≡ seeded_status seeded)

-- what came of the list was written on a line; at a device's fault, a first part of it; another fault left the world
-- and the writer, and the store is one only where the import can fail
pub record IsInitRun {S R W : Type 0} (k : Kinds S R W) (list : List ℕ) (old new : Content) (writer written : Tally W)
    (result : Result ℕ ToolFault) : Type 0 where
  pub leads : Leads old new
  pub once : WritesOnce old new
  pub stops : StopsInList list old new
  pub settled : IsSettled new
  pub sane : SaneThen Sane old new
  pub line : IfOk result (λ status. (line : List ℕ) × InitText list old new line status
      × Appends (k.streams.contents writer.device) (k.streams.contents written.device) line)
  pub same : IfOk result (λ status. written.failures ≡ writer.failures)
  pub device : IsErrOf result tool.Device → Rises writer.failures written.failures
  pub part : IsErrOf result tool.Device → (line : List ℕ) × (status : ℕ) × InitText list old new line status
      × WritesPart (k.streams.contents writer.device) (k.streams.contents written.device) line
  pub memory : IsErrOf result tool.Memory → KeptWorld old new × (written ≡ writer)
  pub store : IsErrOf result tool.Store → ListCanFail list old new × KeptWorld old new × (written ≡ writer)
