-- What holds of the rows of ordered maps and of their keys, and of the indexes beside them.
use Rattle.std.specs.Prelude.{◌≡◌, ◌==◌, ◌&&◌, ◌≤◌, ℕ, Bool, false, cond, List, [], ◌∷◌, map, Contains}
use Rattle.std.specs.Prelude.{Option, Some, None}
use Rattle.std.specs.declared.cmp.Ordering.{Ordering}
use Rattle.std.specs.Ordering.{eq_by_cmp, nat_cmp, ordering_then}
use Rattle.std.specs.List.{IsDistinct, list_any, filter}
use Rattle.std.specs.Map.{lookup}
use Rattle.std.specs.BTreeMap.{is_at}
use Rattle.hall_policy.specs.Text.{text_cmp}
use Rattle.hall_policy.specs.Ranges.{IsLabel, IsRoundId, IsName, IsToken}
use Rattle.hall_policy.specs.World.{answer_cmp, same_text}
use Rattle.hall_policy.specs.declared.record.Person.{Person}
use Rattle.hall_policy.specs.declared.record.PuzzleKey.{PuzzleKey}
use Rattle.hall_policy.specs.declared.record.PuzzleRow.{PuzzleRow}
use Rattle.hall_policy.specs.declared.record.Entry.{Entry}
use Rattle.hall_policy.specs.declared.record.RoundRow.{RoundRow}
use Rattle.hall_policy.specs.declared.record.AnswerKey.{AnswerKey}
use Rattle.hall_policy.specs.declared.record.AnswerRow.{AnswerRow}
use Rattle.hall_policy.specs.declared.record.ProtestKey.{ProtestKey}
use Rattle.hall_policy.specs.declared.record.ProtestRow.{ProtestRow}
use Rattle.hall_store.specs.Store.{is_up_to}
use Rattle.hall_store.specs.declared.slot.AnswerSlot.{AnswerSlot}
use Rattle.hall_store.specs.declared.slot.UseKey.{UseKey}
use Rattle.hall_store.specs.declared.slot.Part.{Part}
use Rattle.hall_store.specs.declared.slot.Part.TheVariants.{Round, Entrant, Puzzle}

-- each row and its key have P
abbrev pub Each : {K X : Type 0} → (K → K → Ordering) → List (K × X) → (K → X → Type 0) → Type 0
Each {K} {X} R rows P = (key : K) (row : X) → lookup (is_at (R key)) rows ≡ Some row → P key row

-- the list isn't empty
abbrev pub HasAny : {X : Type 0} → List X → Type 0
HasAny {X} xs = (x : X) × Contains xs x

-- the least word
abbrev pub least_word : List ℕ
least_word = 45 ∷ []

-- ---- people
-- the person stands under that person's name, and the index leads from the person's key to it
pub record IsPersonIndexed (keys : List (List ℕ × List ℕ)) (name : List ℕ) (person : Person) : Type 0 where
  pub own : person.name ≡ name
  pub led : lookup (is_at (text_cmp person.key)) keys ≡ Some name

-- the list gives the key to nobody of another name
abbrev pub AgreesOn : List Person → List ℕ → List ℕ → Type 0
AgreesOn list key name = (person : Person) → Contains list person → person.key ≡ key → person.name ≡ name

-- what the index has and the list agrees on is not lost
abbrev pub AgreedStay : List Person → List (List ℕ × List ℕ) → List (List ℕ × List ℕ) → Type 0
AgreedStay list before after =
    (key : List ℕ) (name : List ℕ) → AgreesOn list key name
    → lookup (is_at (text_cmp key)) before ≡ Some name → lookup (is_at (text_cmp key)) after ≡ Some name

-- the index leads from the key of each person of the list to the name
abbrev pub AreLed : List Person → List (List ℕ × List ℕ) → Type 0
AreLed list keys =
    (person : Person) → Contains list person → lookup (is_at (text_cmp person.key)) keys ≡ Some person.name

-- the person, where it has the key
abbrev pub if_holder : List ℕ → Option Person → Option Person
if_holder key None = None
if_holder key (Some person) = cond (same_text person.key key) (Some person) None

-- the person under the name that the index gave, where it has the key
abbrev pub holder_under : List (List ℕ × Person) → List ℕ → Option (List ℕ) → Option Person
holder_under people key None = None
holder_under people key (Some name) = if_holder key (lookup (is_at (text_cmp name)) people)

-- the person with the key, as the index leads to it
abbrev pub holder_of : List (List ℕ × Person) → List (List ℕ × List ℕ) → List ℕ → Option Person
holder_of people keys key = holder_under people key (lookup (is_at (text_cmp key)) keys)

-- ---- puzzles
-- the puzzle stands under its own key, whose label is a word
pub record IsPuzzleKept (key : PuzzleKey) (row : PuzzleRow) : Type 0 where
  pub own : row.key ≡ key
  pub label : IsLabel key.label

-- the least key that a puzzle of the author can have
abbrev pub first_label : List ℕ → PuzzleKey
first_label author = record { author = author; label = least_word }

-- ---- rounds and their puzzles
-- the order of uses: by author, label, then round
abbrev pub use_cmp : UseKey → UseKey → Ordering
use_cmp a b =
    ordering_then (text_cmp a.author b.author) (ordering_then (text_cmp a.label b.label) (text_cmp a.round b.round))

-- that the round may have the puzzle
abbrev pub use_of : PuzzleKey → List ℕ → UseKey
use_of key round = record { author = key.author; label = key.label; round = round }

-- the use is of the puzzle
abbrev pub is_use_of : PuzzleKey → UseKey → Bool
is_use_of key used = same_text used.author key.author && same_text used.label key.label

-- the use's round is a word
abbrev pub IsUseKept : UseKey → Unit {0} → Type 0
IsUseKept used _ = IsRoundId used.round

-- the index has each puzzle of the round
abbrev pub IsRoundIndexed : List (UseKey × Unit {0}) → List ℕ → RoundRow → Type 0
IsRoundIndexed uses id row =
    (entry : Entry) → Contains row.puzzles entry → lookup (is_at (use_cmp (use_of entry.puzzle id))) uses ≡ Some tt

-- no use is lost
abbrev pub UsesStay : List (UseKey × Unit {0}) → List (UseKey × Unit {0}) → Type 0
UsesStay before after =
    (used : UseKey) → lookup (is_at (use_cmp used)) before ≡ Some tt → lookup (is_at (use_cmp used)) after ≡ Some tt

-- one of the entries is the puzzle
abbrev pub has_puzzle : List Entry → PuzzleKey → Bool
has_puzzle entries key =
    list_any (λ entry. same_text entry.puzzle.author key.author && same_text entry.puzzle.label key.label) entries

-- the round that was found has the puzzle
abbrev pub has_puzzle_at : PuzzleKey → Option RoundRow → Bool
has_puzzle_at key None = false
has_puzzle_at key (Some row) = has_puzzle row.puzzles key

-- the testers of the round that was found
abbrev pub testers_at : Option RoundRow → List (List ℕ)
testers_at None = []
testers_at (Some row) = row.testers

-- the round of the use has the puzzle that the use is of
abbrev pub is_use_true : List (List ℕ × RoundRow) → PuzzleKey → UseKey × Unit {0} → Bool
is_use_true rounds key used = has_puzzle_at key (lookup (is_at (text_cmp used.0.round)) rounds)

-- the rounds of the uses of the puzzle that are true
abbrev pub ids_using : List (List ℕ × RoundRow) → PuzzleKey → List (UseKey × Unit {0}) → List (List ℕ)
ids_using rounds key uses =
    map (λ used. used.0.round) (filter (is_use_true rounds key) (filter (λ used. is_use_of key used.0) uses))

-- ---- answers
-- the order of slots: by round, entrant, number, then n
abbrev pub slot_cmp : AnswerSlot → AnswerSlot → Ordering
slot_cmp a b =
    ordering_then (text_cmp a.round b.round)
    (ordering_then (text_cmp a.entrant b.entrant)
    (ordering_then (nat_cmp a.number b.number) (nat_cmp a.n b.n)))

-- the answer's slot
abbrev pub slot_of : AnswerRow → AnswerSlot
slot_of row = record { round = row.key.round; entrant = row.key.entrant; number = row.key.number; n = row.n }

-- an answer under its key
abbrev pub answer_entry : AnswerSlot × AnswerRow → AnswerKey × AnswerRow
answer_entry entry = (entry.1.key, entry.1)

-- no answer has the key of another
abbrev pub AreKeysDistinct : List (AnswerSlot × AnswerRow) → Type 0
AreKeysDistinct entries = IsDistinct (eq_by_cmp answer_cmp) (map (λ entry. entry.1.key) entries)

-- the answer stands in its own slot, whose parts are in their limits
pub record IsAnswerKept (slot : AnswerSlot) (row : AnswerRow) : Type 0 where
  pub own : slot_of row ≡ slot
  pub entrant : IsName slot.entrant
  pub number : 1 ≤ slot.number
  pub n : 1 ≤ slot.n

-- both slots are of one round, of one entrant in it, or of one entrant to one puzzle of it
abbrev pub agree : Part → AnswerSlot → AnswerSlot → Bool
agree Round a b = same_text a.round b.round
agree Entrant a b = same_text a.round b.round && same_text a.entrant b.entrant
agree Puzzle a b = (same_text a.round b.round && same_text a.entrant b.entrant) && (a.number == b.number)

-- the least slot that an answer of the entrant to the round's puzzle of the number can have
abbrev pub first_slot : List ℕ → List ℕ → ℕ → AnswerSlot
first_slot round entrant number = record { round = round; entrant = entrant; number = number; n = 1 }

-- the name, or the least word where none is given
abbrev pub first_name : Option (List ℕ) → List ℕ
first_name None = least_word
first_name (Some name) = name

-- the slot is of the round, and its entrant's name doesn't come after the last, where one is given
abbrev pub is_inside : List ℕ → Option (List ℕ) → AnswerSlot → Bool
is_inside round last slot = same_text slot.round round && is_up_to last slot.entrant

-- no slot of the part is below this one
abbrev pub IsFirst : Part → AnswerSlot → Type 0
IsFirst Round slot = (slot.entrant ≡ least_word) × (slot.number ≡ 1) × (slot.n ≡ 1)
IsFirst Entrant slot = (slot.number ≡ 1) × (slot.n ≡ 1)
IsFirst Puzzle slot = slot.n ≡ 1

-- ---- protests
-- the protest stands under its own key, whose token is a word
pub record IsProtestKept (key : ProtestKey) (row : ProtestRow) : Type 0 where
  pub own : row.key ≡ key
  pub token : IsToken key.token

-- the least key that a protest of the entrant in the round can have
abbrev pub first_protest : List ℕ → List ℕ → ProtestKey
first_protest entrant round = record { entrant = entrant; round = round; token = least_word }

-- the protest is one of the round, and open
abbrev pub IsOpenIn : List ℕ → ProtestRow → Type 0
IsOpenIn round row = (row.key.round ≡ round) × (row.ruling ≡ None)

-- one of the protests is one of the round, and open
abbrev pub HasOpen : List ℕ → List ProtestRow → Type 0
HasOpen round rows = (row : ProtestRow) × Contains rows row × IsOpenIn round row
