-- The columns that a round, its puzzles and its testers are written in, and the rows under a round's id.
use Rattle.std.specs.Prelude.{◌≡◌, ℕ, ℤ, pos, Bool, List, [], ◌∷◌, length, Some, if◌then◌else◌}
use Rattle.std.specs.List.{filter, list_all}
use Rattle.std.specs.FinMap.{get}
use Rattle.sqlite.specs.declared.types.Value.TheVariants.{Int, Text}
use Rattle.sqlite.specs.Order.{Row}
use Rattle.sqlite_sql.specs.declared.ops.BinaryOp.TheVariants.{Compare}
use Rattle.sqlite_sql.specs.declared.ops.CompareOp.TheVariants.{Eq}
use Rattle.sqlite.specs.Collation.TheVariants.{Binary}
use Rattle.sqlite.specs.Term.{holds, col, op2}
use Rattle.sqlite.specs.Effect.{Database}
use Rattle.sqlite.specs.State.{State}
use Rattle.hall_policy.specs.declared.record.Entry.{Entry}
use Rattle.hall_policy.specs.declared.record.Mode as mode
use Rattle.hall_policy.specs.declared.record.Mode.TheVariants.{Instant, Sealed}
use Rattle.hall_policy.specs.declared.record.Round.{Round}
use Rattle.hall_sql.specs.Rows.{world_of}

-- the code of a mode: 0 instant, 1 sealed
abbrev pub mode_code : mode.Mode → ℕ
mode_code Instant = 0
mode_code Sealed = 1

-- the code of a flag: 0 or 1
abbrev pub flag_code : Bool → ℤ
flag_code flag = if flag then pos 1 else pos 0

-- the columns of a round: id, title, start, minutes, minutes of protest, mode, penalty, bonus, released, published
abbrev pub head_params : Round → Row
head_params round =
    Text round.id ∷ Text round.title ∷ Int (pos round.start) ∷ Int (pos round.minutes)
    ∷ Int (pos round.protest_minutes) ∷ Int (pos (mode_code round.mode)) ∷ Int (pos round.penalty)
    ∷ Int (pos round.bonus) ∷ Int (flag_code round.released) ∷ Int (flag_code round.published) ∷ []

-- the columns of a puzzle in a round: round, number, author, label, points
abbrev pub place_params : List ℕ → ℕ → Entry → Row
place_params round number entry =
    Text round ∷ Int (pos number) ∷ Text entry.puzzle.author ∷ Text entry.puzzle.label ∷ Int (pos entry.points) ∷ []

-- the columns of a tester of a round: round, name
abbrev pub tester_params : List ℕ → List ℕ → Row
tester_params round name = Text round ∷ Text name ∷ []

-- the row's first column is this text, as SQL compares
abbrev pub is_under : List ℕ → Row → Bool
is_under id row = list_all (holds ((Text id ∷ []) ∷ row ∷ [])) (op2 (Compare Eq Binary) (col 1 1) (col 0 0) ∷ [])

-- so many rows of the table of rounds stand under the id
abbrev pub HasSoManyHeads : List ℕ → Database → ℕ → Type 0
HasSoManyHeads id held count = length (filter (is_under id) (held.trees 5)) ≡ count

-- the round is the one of the id, and one row stands under it
pub record IsHead (id : List ℕ) (s : State) (round : Round) : Type 0 where
  pub kept : get (world_of s.now.trees).rounds id ≡ Some round
  pub alone : HasSoManyHeads id s.now 1
