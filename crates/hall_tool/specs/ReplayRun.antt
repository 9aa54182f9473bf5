-- The command replay: an entry list before any request, and the records of an input over the world that it leaves.
use Rattle.std.specs.Prelude.{◌≡◌, ◌≢◌, ◌⊎◌, ℕ, List, Result, Ok, Err, IfOk, OnErr, IsErrOf}
use Rattle.std.specs.Io.KnownBytes.{Appends}
use Rattle.hall_grid.specs.Device.{Rises, Tally}
use Rattle.hall_store.specs.Store.{Content, IsSettled, KeptWorld, Leads, WritesOnce}
use Rattle.hall_http.specs.Device.{WritesPart}
use Rattle.hall_http.specs.Replay.{IsReplayed}
use Rattle.hall_http.specs.Served.{line}
use Rattle.hall_http.specs.declared.fault.ReplayFault.{ReplayFault}
use Rattle.hall_http.specs.declared.fault.ReplayFault.TheVariants as replay
use Rattle.hall_tool.specs.Machine.{Kinds, Stand}
use Rattle.hall_tool.specs.SeedText.{SeedText, StopsInList, ListCanFail}
use Rattle.hall_tool.specs.declared.fault.ToolFault.{ToolFault}
use Rattle.hall_tool.specs.declared.fault.ToolFault.TheVariants as tool

-- an entry list was imported before any request, or was refused or denied on a line; or a fault left the world, and
-- perhaps a first part of the line, and the store is one only where the import can fail
pub record IsSeedRun {S R W : Type 0} (k : Kinds S R W) (list : List ℕ) (old new : Content) (writer written : Tally W)
    (result : Result ℕ ToolFault) : Type 0 where
  pub leads : Leads old new
  pub once : WritesOnce old new
  pub stops : StopsInList list old new
  pub settled : IsSettled new
  pub line : IfOk result (λ status. (line : List ℕ) × SeedText list old new line status
      × Appends (k.streams.contents writer.device) (k.streams.contents written.device) line)
  pub same : IfOk result (λ status. written.failures ≡ writer.failures)
  pub left : OnErr result (KeptWorld old new)
  pub device : IsErrOf result tool.Device → Rises writer.failures written.failures
  pub part : IsErrOf result tool.Device → (line : List ℕ) × (status : ℕ) × SeedText list old new line status
      × WritesPart (k.streams.contents writer.device) (k.streams.contents written.device) line
  pub memory : IsErrOf result tool.Memory → written ≡ writer
  pub store : IsErrOf result tool.Store → written ≡ writer
  pub cause : IsErrOf result tool.Store → ListCanFail list old new

-- 0 exactly where the records ended well, 2 where what was left is none; a fault is a fault
abbrev pub replay_end : {U : Type 0} → Result U ReplayFault → Result ℕ ToolFault
replay_end (Ok done) = Ok 0
replay_end (Err replay.Record) = Ok 2
replay_end (Err replay.Device) = Err tool.Device
replay_end (Err replay.Memory) = Err tool.Memory

-- Where the list wasn't imported, that is all, and no record was read; else the records were answered from the world
-- that the import left.
abbrev pub IsReplayRun : {S R W : Type 0} → Kinds S R W → List ℕ → Stand S R W → Stand S R W → Result ℕ ToolFault
    → Type 0
IsReplayRun {S} {R} {W} k list before after result =
    (IsSeedRun k list (k.content before.kept) (k.content after.kept) before.writer after.writer result
    × (result ≢ Ok 0) × (after.reader ≡ before.reader))
    ⊎ ((seeded : S) × (told : Tally W) × (end : Result (Unit {0}) ReplayFault)
    × IsSeedRun k list (k.content before.kept) (k.content seeded) before.writer told (Ok 0)
    × IsReplayed k.content (line k.streams.remaining k.streams.contents before.reader told) seeded
    (line k.streams.remaining k.streams.contents after.reader after.writer) after.kept end
    × (result ≡ replay_end end))
