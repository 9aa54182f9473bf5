-- What comes of the words after the program's name: the command that they spell is run, or they are refused; and what
-- is told of it.
use Rattle.std.specs.Prelude.{◌≡◌, ◌⊎◌, ℕ, List, Option, Result, Ok, Err}
use Rattle.std.specs.Io.KnownBytes.{Appends}
use Rattle.std.specs.declared.io.ErrorKind.{ErrorKind}
use Rattle.std.specs.declared.io.ErrorKind.TheVariants.{OutOfMemory}
use Rattle.clap.specs.Words.{Text}
use Rattle.hall_grid.specs.Device.{Rises, Tally}
use Rattle.hall_http.specs.Device.{WritesPart}
use Rattle.hall_tool.specs.Advice.{fault_lines}
use Rattle.hall_tool.specs.Status.{status_of}
use Rattle.hall_tool.specs.Words.{SpellsCommand, SpellsNone}
use Rattle.hall_tool.specs.declared.fault.CommandFault.{CommandFault}
use Rattle.hall_tool.specs.declared.fault.CommandFault.TheVariants.{Tool}
use Rattle.hall_tool.specs.declared.fault.ToolFault.TheVariants.{Memory}
use Rattle.hall_tool.specs.declared.program.TheConstants.{NO_TEXT}
use Rattle.hall_tool.specs.declared.words.Command.{Command}

-- the text was written, and no write failed; or one write failed, and a first part of it was written
abbrev pub IsTextTold : {E : Type 0} → (E → Option (List ℕ)) → List ℕ → Tally E → Tally E → Type 0
IsTextTold contents text old new =
    ((new.failures ≡ old.failures) × Appends (contents old.device) (contents new.device) text)
    ⊎ (Rises old.failures new.failures × WritesPart (contents old.device) (contents new.device) text)

-- of a fault it was told that there is one, and what to do; of any other end nothing
abbrev pub IsEndTold : {E : Type 0} → (E → Option (List ℕ)) → Result ℕ CommandFault → Tally E → Tally E → Type 0
IsEndTold contents (Ok status) old new = new ≡ old
IsEndTold contents (Err fault) old new = IsTextTold contents (fault_lines fault) old new

-- memory was wanting, which was told, and the status is 3
abbrev pub IsWanting : {E : Type 0} → (E → Option (List ℕ)) → Tally E → Tally E → ℕ → Type 0
IsWanting contents old new status = IsTextTold contents (fault_lines (Tool Memory)) old new × (status ≡ 3)

-- some text of a refusal was told, and the status is 64
abbrev pub AreWordsRefused : {E : Type 0} → (E → Option (List ℕ)) → Tally E → Tally E → ℕ → Type 0
AreWordsRefused contents old new status = ((text : List ℕ) × IsTextTold contents text old new) × (status ≡ 64)

-- The words spell a command, which was run; what is told and the status are those of its end. Or they spell none, and
-- are refused; or memory was wanting to read them. Both leave all that a command is run over.
abbrev pub AreWordsRun : {E : Type 0} → (Command → Result ℕ CommandFault → Type 0) → Type 0 → (E → Option (List ℕ))
    → List Text → Tally E → Tally E → ℕ → Type 0
AreWordsRun Runs Stays contents words old new status =
    ((command : Command) × (ended : Result ℕ CommandFault) × SpellsCommand words command × Runs command ended
    × IsEndTold contents ended old new × (status ≡ status_of ended))
    ⊎ (SpellsNone words × Stays × AreWordsRefused contents old new status)
    ⊎ (Stays × IsWanting contents old new status)

-- the words can't be had: memory was wanting for them, or one is no text, which was told
abbrev pub AreNoWords : {E : Type 0} → (E → Option (List ℕ)) → ErrorKind → Tally E → Tally E → ℕ → Type 0
AreNoWords contents OutOfMemory old new status = IsWanting contents old new status
AreNoWords contents any old new status = IsTextTold contents NO_TEXT.now old new × (status ≡ 64)
