-- What is written of a round's table, and the exit status.
use Rattle.std.specs.Prelude.{◌≡◌, ◌≢◌, ◌⊎◌, ℕ, List, None, Result, IfOk, IsErrOf}
use Rattle.std.specs.Io.KnownBytes.{Appends}
use Rattle.hall_grid.specs.Device.{Rises, Tally}
use Rattle.hall_policy.specs.Ranges.{IsRoundId}
use Rattle.hall_policy.specs.World.{World}
use Rattle.hall_policy.specs.declared.record.PuzzleState.{PuzzleState}
use Rattle.hall_policy.specs.declared.request.Action.TheVariants.{Table}
use Rattle.hall_store.specs.Store.{Content, Kept}
use Rattle.hall_desk.specs.Plans.{PlanCanFail}
use Rattle.hall_desk.specs.Step.{IsAnswered}
use Rattle.hall_desk.specs.declared.reply.Reply.{Reply}
use Rattle.hall_desk.specs.declared.reply.Reply.TheVariants as reply
use Rattle.hall_http.specs.Device.{WritesPart}
use Rattle.hall_tool.specs.Machine.{Kinds}
use Rattle.hall_tool.specs.SeedText.{denial_of}
use Rattle.hall_tool.specs.declared.fault.ToolFault.{ToolFault}
use Rattle.hall_tool.specs.declared.fault.ToolFault.TheVariants as tool

-- the table itself, and 0; or a denial on a line, and 2
abbrev pub IsTableWritten : Reply → List ℕ → ℕ → Type 0
IsTableWritten (reply.Table table) text status = (text ≡ table) × (status ≡ 0)
IsTableWritten (reply.Denied rule) text status = (text ≡ denial_of rule) × (status ≡ 2)
IsTableWritten other text status = ⊥

-- the reply is neither
abbrev pub IsOtherReply : Reply → Type 0
IsOtherReply given = ((table : List ℕ) → given ≢ reply.Table table) × ((rule : ℕ) → given ≢ reply.Denied rule)

-- A request for the round's table is answered so, and leaves the world. It needs no key, and asks for no search; the
-- moment, which is here 0, decides nothing of it.
abbrev pub IsTableReply : World → List ℕ → Reply → Type 0
IsTableReply world round given =
    (found : PuzzleState)
    × IsAnswered world (record { moment = 0; request = record { key = None; action = Table round }; found = found })
    given world

-- the store served, and the reply is that of its world; or no store was asked, and it is that of every world
abbrev pub IsTableOver : Content → List ℕ → Reply → Type 0
IsTableOver content round given =
    (content.honest → content.serves × IsTableReply content.world round given)
    ⊎ ((world : World) → IsTableReply world round given)

-- the bytes are no round's id, which is denied as a round that isn't there; or they are one, and its table is asked for
abbrev pub TableText : List ℕ → Content → List ℕ → ℕ → Type 0
TableText round content text status =
    (¬ (IsRoundId round) × (text ≡ denial_of 4) × (status ≡ 2))
    ⊎ (IsRoundId round × ((given : Reply) × IsTableOver content round given × IsTableWritten given text status))

-- the world stays, and the table or its denial was written; at a device's fault, a first part of it; another fault left
-- the writer, and the store is one only where it may fail
pub record IsTableRun {S R W : Type 0} (k : Kinds S R W) (round : List ℕ) (old new : Content)
    (writer written : Tally W) (result : Result ℕ ToolFault) : Type 0 where
  pub kept : Kept old new
  pub text : IfOk result (λ status. (text : List ℕ) × TableText round new text status
      × Appends (k.streams.contents writer.device) (k.streams.contents written.device) text)
  pub same : IfOk result (λ status. written.failures ≡ writer.failures)
  pub device : IsErrOf result tool.Device → Rises writer.failures written.failures
  pub part : IsErrOf result tool.Device → (text : List ℕ) × (status : ℕ) × TableText round new text status
      × WritesPart (k.streams.contents writer.device) (k.streams.contents written.device) text
  pub memory : IsErrOf result tool.Memory → written ≡ writer
  pub store : IsErrOf result tool.Store → written ≡ writer
  pub fault : IsErrOf result tool.Store → PlanCanFail old new
