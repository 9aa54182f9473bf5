-- What the copies of tables say of the store that the tables were made from, and which changes leave them.
use Rattle.std.specs.Prelude.{◌≡◌, ℕ, Bool, true, false, not, List, Option, Some, Contains}
use Rattle.std.specs.List.{list_all}
use Rattle.hall_policy.specs.World.{same_text}
use Rattle.hall_store.specs.Store.{Content, Asks}
use Rattle.hall_store.specs.declared.change.Change.{Change}
use Rattle.hall_store.specs.declared.change.Change.TheVariants.{Nothing, Import, PutPuzzle, SetState, PutRound}
use Rattle.hall_store.specs.declared.change.Change.TheVariants.{SetRoundFlag, AddAnswer, AddAnswers, AddProtest}
use Rattle.hall_store.specs.declared.change.Change.TheVariants.{RuleProtest}
use Rattle.hall_desk.specs.Totals.{IsTableAt}
use Rattle.hall_desk.specs.declared.table_copy.TableCopy.{TableCopy}

-- there are copies, and this is one of them
abbrev pub IsKept : Option (List TableCopy) → TableCopy → Type 0
IsKept copied copy = (copies : List TableCopy) × (copied ≡ Some copies) × Contains copies copy

-- the text of each copy is its round's table
abbrev pub AreTablesCopied : Content → Option (List TableCopy) → Type 0
AreTablesCopied content copied =
    (copy : TableCopy) → IsKept copied copy → Asks content (λ world. IsTableAt world copy.round copy.text)

-- the change is of no round, answer or protest that the table of the round with this id is made of; a ruling counts as
-- one of any round's, since it names its protest by a key alone
abbrev pub leaves_table : Change → List ℕ → Bool
leaves_table Nothing id = true
leaves_table (Import people) id = true
leaves_table (PutPuzzle row) id = true
leaves_table (SetState key state) id = true
leaves_table (PutRound row) id = not (same_text row.round.id id)
leaves_table (SetRoundFlag round flag) id = not (same_text round id)
leaves_table (AddAnswer row) id = not (same_text row.key.round id)
leaves_table (AddAnswers rows) id = list_all (λ row. not (same_text row.key.round id)) rows
leaves_table (AddProtest row) id = not (same_text row.key.round id)
leaves_table (RuleProtest key ruling) id = false
