-- What each command does with files, a host, an input and an output, and how it ends.
use Rattle.std.specs.Prelude.{◌≡◌, ⊤, ℕ, Result}
use Rattle.sqlite.specs.Held.{state}
use Rattle.hall_sql.specs.Content.{content_of}
use Rattle.hall_tool.specs.CheckRun.{IsCheckAt}
use Rattle.hall_tool.specs.Commands.{IsInitAt, IsReplayInMemory, IsTaskAt, tables}
use Rattle.hall_tool.specs.Help.{help_text, version_text}
use Rattle.hall_tool.specs.JudgeText.{IsJudgeRun}
use Rattle.hall_tool.specs.Machine.{AllFiles, Hosts, Machine, Streams, copied_over}
use Rattle.hall_tool.specs.Migrate.{IsMigrateAt}
use Rattle.hall_tool.specs.Shown.{IsShown}
use Rattle.hall_tool.specs.SolveText.{IsSolveRun}
use Rattle.hall_tool.specs.Tasks.{DoesServe, DoesTable, command_end, service}
use Rattle.hall_tool.specs.declared.fault.CommandFault.{CommandFault}
use Rattle.hall_tool.specs.declared.fault.ToolFault.{ToolFault}
use Rattle.hall_tool.specs.declared.words.Command.{Command}
use Rattle.hall_tool.specs.declared.words.Command.TheVariants.{Judge, Solve, Init, Serve, Replay, Table, Migrate}
use Rattle.hall_tool.specs.declared.words.Command.TheVariants.{Check, Help, Version}

-- what was done ended so, and with it the command
abbrev pub EndsAs : (Result ℕ ToolFault → Type 0) → Result ℕ CommandFault → Type 0
EndsAs Done result = (ended : Result ℕ ToolFault) × Done ended × (result ≡ command_end ended)

-- The command was run, over files of these kinds, those of a database to be migrated apart, on a host, with a reader
-- and a writer. One that asks for no file leaves the files as they were, and each but serving the host.
abbrev pub IsCommandRun : {G O F S N L C P R W : Type 0} → AllFiles G O F S → Hosts N L C P → Streams R W → Command
    → Machine G N F R W → Machine G N F R W → Result ℕ CommandFault → Type 0
IsCommandRun all host known Judge before after result =
    EndsAs (IsJudgeRun known before.on.stand.reader after.on.stand.reader before.on.stand.writer after.on.stand.writer)
    result × (after.on.stand.kept ≡ before.on.stand.kept) × (after.on.host ≡ before.on.host)
IsCommandRun all host known (Solve budget) before after result =
    EndsAs (IsSolveRun budget known before.on.stand.reader after.on.stand.reader before.on.stand.writer
    after.on.stand.writer)
    result × (after.on.stand.kept ≡ before.on.stand.kept) × (after.on.host ≡ before.on.host)
IsCommandRun all host known (Init db people) before after result =
    IsInitAt all.files known db people before.on after.on result
IsCommandRun all host known (Serve db port connections) before after result =
    IsTaskAt all.files (DoesServe host (λ s. content_of (state all.files.store s)) (service db port connections)) db
    before.on after.on result
IsCommandRun all host known (Replay people) before after result =
    IsReplayInMemory all.files known people before.on after.on result
IsCommandRun all host known (Table db round) before after result =
    IsTaskAt all.files (DoesTable (tables all.files.store known) round) db before.on after.on result
IsCommandRun all host known (Migrate from to) before after result =
    IsMigrateAt all known.contents from to (copied_over before) (copied_over after) result
    × (after.on.host ≡ before.on.host) × (after.on.stand.reader ≡ before.on.stand.reader)
IsCommandRun all host known (Check db budget) before after result =
    IsCheckAt all.sources known.contents db budget before.sources after.sources before.on.stand.writer
    after.on.stand.writer result
    × (after.on.stand.kept ≡ before.on.stand.kept) × (after.on.host ≡ before.on.host)
    × (after.on.stand.reader ≡ before.on.stand.reader)
IsCommandRun all host known (Help page) before after result =
    EndsAs (IsShown known.contents (help_text page) before.on.stand.writer after.on.stand.writer) result
    × (after.on.stand.kept ≡ before.on.stand.kept) × (after.on.host ≡ before.on.host)
    × (after.on.stand.reader ≡ before.on.stand.reader)
IsCommandRun all host known Version before after result =
    EndsAs (IsShown known.contents version_text before.on.stand.writer after.on.stand.writer) result
    × (after.on.stand.kept ≡ before.on.stand.kept) × (after.on.host ≡ before.on.host)
    × (after.on.stand.reader ≡ before.on.stand.reader)

-- each command but these two leaves what it is for them alone to take
abbrev pub UnlessRead : Command → Type 0 → Type 0
UnlessRead (Migrate from to) claim = ⊤
UnlessRead (Check db budget) claim = ⊤
UnlessRead other claim = claim
