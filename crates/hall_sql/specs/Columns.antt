-- The columns that a record is written in, and the rows under its key.
use Rattle.std.specs.Prelude.{◌≡◌, ℕ, ◌+◌, pos, Bool, if◌then◌else◌, List, [], ◌∷◌, length, Option, Some, None}
use Rattle.std.specs.List.{filter, list_all}
use Rattle.sqlite.specs.declared.types.Value.TheVariants.{Int, Text}
use Rattle.sqlite.specs.Order.{Row}
use Rattle.sqlite_sql.specs.declared.ops.BinaryOp.TheVariants.{Compare}
use Rattle.sqlite_sql.specs.declared.ops.CompareOp.TheVariants.{Eq}
use Rattle.sqlite.specs.Collation.TheVariants.{Binary}
use Rattle.sqlite.specs.Term.{holds, col, op2}
use Rattle.sqlite.specs.State.{State}
use Rattle.hall_policy.specs.declared.record.PuzzleKey.{PuzzleKey}
use Rattle.hall_policy.specs.declared.record.PuzzleRow.{PuzzleRow}
use Rattle.hall_policy.specs.declared.record.PuzzleState.{PuzzleState}
use Rattle.hall_policy.specs.declared.record.PuzzleState.TheVariants.{New, One, NoSolution, More, GaveUp}
use Rattle.hall_policy.specs.declared.record.AnswerRow.{AnswerRow}
use Rattle.hall_policy.specs.declared.record.ProtestKey.{ProtestKey}
use Rattle.hall_policy.specs.declared.record.ProtestRow.{ProtestRow}
use Rattle.hall_policy.specs.declared.record.Ruling.{Ruling}
use Rattle.hall_policy.specs.declared.record.Ruling.TheVariants.{Upheld, Rejected}
use Rattle.hall_policy.specs.declared.record.Person.{Person}
use Rattle.hall_policy.specs.declared.record.Roles.{Roles}
use Rattle.hall_policy.specs.World.{ruling_points}
use Rattle.hall_sql.specs.Rows.{protest_of_row}

-- the columns of an answer: entrant, round, number, token, n, moment, answer, verdict
abbrev pub answer_params : AnswerRow → Row
answer_params row =
    Text row.key.entrant ∷ Text row.key.round ∷ Int (pos row.key.number) ∷ Text row.key.token ∷ Int (pos row.n)
    ∷ Int (pos row.moment) ∷ Text row.answer ∷ Int (pos row.verdict) ∷ []

-- the code of a state: 0 new, 1 one, 2 none, 3 more, 4 gave up
abbrev pub state_code : PuzzleState → ℕ
state_code New = 0
state_code (One solution) = 1
state_code NoSolution = 2
state_code More = 3
state_code GaveUp = 4

-- the solution of a state, and the empty text where it has none
abbrev pub solution_of : PuzzleState → List ℕ
solution_of New = []
solution_of (One solution) = solution
solution_of NoSolution = []
solution_of More = []
solution_of GaveUp = []

-- the columns of a puzzle that this text spells: author, label, body, state, solution
abbrev pub puzzle_params : List ℕ → PuzzleRow → Row
puzzle_params text row =
    Text row.key.author ∷ Text row.key.label ∷ Text text ∷ Int (pos (state_code row.state))
    ∷ Text (solution_of row.state) ∷ []

-- the row stands under the key, as SQL compares
abbrev pub stands_under : PuzzleKey → Row → Bool
stands_under key row =
    list_all (holds ((Text key.author ∷ Text key.label ∷ []) ∷ row ∷ []))
    (op2 (Compare Eq Binary) (col 1 1) (col 0 0) ∷ op2 (Compare Eq Binary) (col 1 2) (col 0 1) ∷ [])

-- so many rows of the table of puzzles stand under the key
abbrev pub HasSoMany : PuzzleKey → State → ℕ → Type 0
HasSoMany key s count = length (filter (stands_under key) (s.now.trees 3)) ≡ count

-- the code of a ruling: 0 open, 1 upheld, 2 rejected
abbrev pub ruling_code : Option Ruling → ℕ
ruling_code None = 0
ruling_code (Some (Upheld points)) = 1
ruling_code (Some Rejected) = 2

-- the columns of a protest: entrant, round, token, number, body, ruling, points
abbrev pub protest_params : ProtestRow → Row
protest_params row =
    Text row.key.entrant ∷ Text row.key.round ∷ Text row.key.token ∷ Int (pos row.number) ∷ Text row.text
    ∷ Int (pos (ruling_code row.ruling)) ∷ Int (ruling_points row.ruling) ∷ []

-- the roles as a sum: 1 director, 2 author, 4 referee, 8 entrant
abbrev pub roles_code : Roles → ℕ
roles_code roles =
    (if roles.director then 1 else 0) + (if roles.author then 2 else 0) + (if roles.referee then 4 else 0)
    + (if roles.entrant then 8 else 0)

-- the columns of a person: name, key, roles
abbrev pub person_params : Person → Row
person_params person = Text person.name ∷ Text person.key ∷ Int (pos (roles_code person.roles)) ∷ []

-- a protest's key, and the columns of its ruling: entrant, round, token, ruling, points
abbrev pub ruling_params : ProtestKey → Option Ruling → Row
ruling_params key ruling =
    Text key.entrant ∷ Text key.round ∷ Text key.token ∷ Int (pos (ruling_code ruling)) ∷ Int (ruling_points ruling)
    ∷ []

-- the row stands under the protest's key, as SQL compares
abbrev pub is_protest_under : ProtestKey → Row → Bool
is_protest_under key row =
    list_all (holds ((Text key.entrant ∷ Text key.round ∷ Text key.token ∷ []) ∷ row ∷ []))
    (op2 (Compare Eq Binary) (col 1 1) (col 0 0) ∷ op2 (Compare Eq Binary) (col 1 2) (col 0 1)
    ∷ op2 (Compare Eq Binary) (col 1 3) (col 0 2) ∷ [])

-- one row alone of the table of protests stands under the key, and it is this protest
pub record IsAlone (key : ProtestKey) (s : State) (row : ProtestRow) : Type 0 where
  pub one : Row
  pub found : filter (is_protest_under key) (s.now.trees 12) ≡ one ∷ []
  pub reads : protest_of_row one ≡ Some row
