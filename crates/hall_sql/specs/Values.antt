-- What a column's value stands for. A value that is no such thing stands for nothing.
use Rattle.std.specs.Prelude.{nat_le, IsTrue, ◌<◌, ◌&&◌, ◌==◌, ◌⊎◌, ◌/◌, ◌%◌, ℕ, ℤ, pos, negsuc, length}
use Rattle.std.specs.Prelude.{Bool, true, false, List}
use Rattle.std.specs.Prelude.{if◌then◌else◌, Option, Some, None}
use Rattle.std.proofs.Common.{inl, inr}
use Rattle.std.specs.Ordering.{int_eq}
use Rattle.sqlite.specs.declared.types.Value.{Value}
use Rattle.sqlite.specs.declared.types.Value.TheVariants.{Null, Int, Real, Text, Blob}
use Rattle.hall_grid.specs.declared.rule.TheConstants.Broken.{ALL_BITS}
use Rattle.hall_grid.specs.Board.{Board}
use Rattle.hall_grid.specs.FormReading.{◌>>=◌}
use Rattle.hall_grid.proofs.SpellsOrHasFault.{spells_or_fault}
use Rattle.hall_policy.specs.Text.{is_kind, as_word, as_token, as_key, as_answer}
use Rattle.hall_policy.specs.declared.record.Roles.{Roles}
use Rattle.hall_policy.specs.declared.record.Mode as mode
use Rattle.hall_policy.specs.declared.record.Mode.TheVariants.{Instant, Sealed}
use Rattle.hall_policy.specs.declared.record.PuzzleState.{PuzzleState}
use Rattle.hall_policy.specs.declared.record.PuzzleState.TheVariants.{New, One, NoSolution, More, GaveUp}
use Rattle.hall_policy.specs.declared.record.Ruling.{Ruling}
use Rattle.hall_policy.specs.declared.record.Ruling.TheVariants.{Upheld, Rejected}

-- what passes the test
abbrev pub passing : {A : Type 0} → (A → Bool) → A → Option A
passing test x = if test x then Some x else None

-- the text
abbrev pub text_in : Value → Option (List ℕ)
text_in Null = None
text_in (Int n) = None
text_in (Real x) = None
text_in (Text t) = Some t
text_in (Blob b) = None

-- the whole number
abbrev pub int_in : Value → Option ℤ
int_in Null = None
int_in (Int n) = Some n
int_in (Real x) = None
int_in (Text t) = None
int_in (Blob b) = None

-- the number, where it isn't negative
abbrev pub natural : ℤ → Option ℕ
natural (pos n) = Some n
natural (negsuc n) = None

-- the whole number that isn't negative
abbrev pub number_in : Value → Option ℕ
number_in value = int_in value >>= natural

-- the text of a kind
abbrev pub kind_in : ℕ → ℕ → (ℕ → Bool) → Value → Option (List ℕ)
kind_in least most allows value = text_in value >>= passing (is_kind least most allows)

-- the number from least to most
abbrev pub within : ℕ → ℕ → Value → Option ℕ
within least most value = number_in value >>= passing (λ n. nat_le least n && nat_le n most)

-- the verdict of an answer: the bits of a set of names of rules
abbrev pub verdict_in : Value → Option ℕ
verdict_in = within 0 ALL_BITS

-- all bytes that are allowed are ASCII
abbrev pub AreAscii : (ℕ → Bool) → Type 0
AreAscii allows = (byte : ℕ) → IsTrue (allows byte) → byte < 128

-- the name, label or id
abbrev pub name_in : Value → Option (List ℕ)
name_in = as_word kind_in

-- the token
abbrev pub token_in : Value → Option (List ℕ)
token_in = as_token kind_in

-- the key of a person
abbrev pub key_in : Value → Option (List ℕ)
key_in = as_key kind_in

-- the roles of a sum of 1 director, 2 author, 4 referee, 8 entrant
abbrev pub roles_of : ℕ → Roles
roles_of sum = record {
  director = sum % 2 == 1;
  author = sum / 2 % 2 == 1;
  referee = sum / 4 % 2 == 1;
  entrant = sum / 8 % 2 == 1;
}

-- the roles, of which there is one at least
abbrev pub roles_in : Value → Option Roles
roles_in value = do
  sum ← within 1 15 value
  Some (roles_of sum)

-- the puzzle that a text spells, where it spells one and so has no fault
abbrev pub board_of : {Spells : Board → Type 0} {HasFault : Type 0} → ((board : Board) × Spells board) ⊎ HasFault
    → Option Board
board_of (inl spelled) = Some spelled.0
board_of (inr fault) = None

-- the puzzle
abbrev pub puzzle_in : Value → Option Board
puzzle_in value = do
  text ← text_in value
  board_of (spells_or_fault text)

-- the state of a code that has no solution: 0 new, 2 none, 3 more, 4 gave up
abbrev pub unsolved_of : ℕ → Option PuzzleState
unsolved_of code =
    if code == 0 then Some New
    else if code == 2 then Some NoSolution
    else if code == 3 then Some More
    else if code == 4 then Some GaveUp else None

-- the state of a code and the solution: 1 is the state one; another has the empty text
abbrev pub state_of : ℕ → List ℕ → Option PuzzleState
state_of code solution =
    if code == 1 then Some (One solution)
    else if length solution == 0 then unsolved_of code else None

-- the state, of its code's value and its solution's
abbrev pub state_in : Value → Value → Option PuzzleState
state_in code solution = do
  n ← number_in code
  text ← as_answer kind_in solution
  state_of n text

-- the mode of a code: 0 instant, 1 sealed
abbrev pub mode_of : ℕ → Option mode.Mode
mode_of code = if code == 0 then Some Instant else if code == 1 then Some Sealed else None

-- the mode
abbrev pub mode_in : Value → Option mode.Mode
mode_in value = number_in value >>= mode_of

-- the flag of a code: 0 or 1
abbrev pub flag_of : ℕ → Option Bool
flag_of code = if code == 0 then Some false else if code == 1 then Some true else None

-- the flag
abbrev pub flag_in : Value → Option Bool
flag_in value = number_in value >>= flag_of

-- the points of a ruling, from -1,000 to 1,000
abbrev pub ruling_points_of : ℤ → Option ℤ
ruling_points_of (pos n) = if nat_le n 1000 then Some (pos n) else None
ruling_points_of (negsuc n) = if nat_le n 999 then Some (negsuc n) else None

-- the ruling that is upheld with these points
abbrev pub upheld : ℤ → Option (Option Ruling)
upheld points = do
  some ← ruling_points_of points
  Some (Some (Upheld some))

-- the ruling of a code that has no points: 0 open, 2 rejected
abbrev pub unpointed_of : ℕ → Option (Option Ruling)
unpointed_of code = if code == 0 then Some None else if code == 2 then Some (Some Rejected) else None

-- the ruling of a code and its points: 1 is upheld; another has 0 points
abbrev pub ruling_of : ℕ → ℤ → Option (Option Ruling)
ruling_of code points =
    if code == 1 then upheld points
    else if int_eq points (pos 0) then unpointed_of code else None

-- the ruling, or none while the protest is open, of its code's value and its points'
abbrev pub ruling_in : Value → Value → Option (Option Ruling)
ruling_in code points = do
  n ← number_in code
  some ← int_in points
  ruling_of n some
