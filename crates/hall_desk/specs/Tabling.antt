-- What the tally of a table that is made in slices says of the store, and that it comes on.
use Rattle.std.specs.Prelude.{◌≡◌, ℕ, List, [], Option}
use Rattle.hall_policy.specs.Sink.{HasTaken}
use Rattle.hall_policy.specs.World.{World, IsRoundAt}
use Rattle.hall_policy.specs.declared.record.RoundRow.{RoundRow}
use Rattle.hall_policy.specs.declared.request.Request.{Request}
use Rattle.hall_score.specs.Tally.{IsTallyOf, TakesAnswer, TakesProtest}
use Rattle.hall_score.specs.declared.tally.Tally.{Tally}
use Rattle.hall_store.specs.Store.{Content, protests_in}
use Rattle.hall_desk.specs.Slices.{AreTaken, SlicesOn}
use Rattle.hall_desk.specs.TableCopy.{IsKept}
use Rattle.hall_desk.specs.Wanted.{AsksTable}
use Rattle.hall_desk.specs.declared.copies.Copies.{Copies}
use Rattle.hall_desk.specs.declared.slices.Slices.{Slices}
use Rattle.hall_desk.specs.declared.table_copy.TableCopy.{TableCopy}

-- the tally is of the round that is kept under the id, and has taken the round's protests, and no answer
pub record BeginsTally (world : World) (id : List ℕ) (tally : Tally) : Type 0 where
  pub row : RoundRow
  pub at : IsRoundAt world id row
  pub fresh : Tally
  pub begun : IsTallyOf row [] [] fresh
  pub protests : HasTaken TakesProtest fresh (protests_in world id) tally

-- it has, and then its answers by entrants up to the name
abbrev pub IsTalliedIn : World → Slices Tally → Type 0
IsTalliedIn = AreTaken TakesAnswer BeginsTally

-- Who asks for the round's table waits for it: the tally under way, or else a new one, has come on; or that under way
-- was of another round and came to its end, and a copy of its table is kept.
abbrev pub TablesOn : Option (Slices Tally) → List ℕ → Option (Slices Tally) → Option (List TableCopy) → Type 0
TablesOn old id new copied =
    SlicesOn old id new (λ round. (copy : TableCopy) × IsKept copied copy × (copy.round ≡ round))

-- the request asks for the table of a round, and waits for it
abbrev pub WaitsForTable : Content → Request → Copies → Copies → Type 0
WaitsForTable content request old new =
    content.honest → content.serves × (asks : AsksTable content.world request)
    × TablesOn old.tabling asks.id new.tabling new.tables
