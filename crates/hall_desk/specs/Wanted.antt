-- What a request waits for: a search, a table, or a listing of answers.
use Rattle.std.specs.Prelude.{◌≡◌, ◌⊎◌, ◌||◌, ℕ, List, Option, Some, None, true, IsTrue}
use Rattle.std.specs.FinMap.{get}
use Rattle.hall_policy.specs.World.{World}
use Rattle.hall_policy.specs.First.{First}
use Rattle.hall_policy.specs.Rules.{TheCaller}
use Rattle.hall_policy.specs.declared.record.PuzzleKey.{PuzzleKey}
use Rattle.hall_policy.specs.declared.record.PuzzleRow.{PuzzleRow}
use Rattle.hall_policy.specs.declared.record.Round.{Round}
use Rattle.hall_policy.specs.declared.request.Action.TheVariants.{Answers, Certify, Table}
use Rattle.hall_policy.specs.declared.request.Request.{Request}
use Rattle.hall_policy.specs.declared.rule.Decision.TheVariants.{Allow}
use Rattle.hall_desk.specs.Memo.{MemoView, Remembers}
use Rattle.hall_desk.specs.Step.{is_open}
use Rattle.hall_store.specs.Caller.{caller_of}
use Rattle.hall_store.specs.Store.{Content}
use Rattle.hall_desk.specs.declared.wanted_search.Wanted.{Wanted}

-- The request certifies a puzzle that the world keeps, and of which no search came to an end yet; and the rules allow
-- it to whoever has its key, at whatever moment it is asked.
pub record NeedsSearch (world : World) (request : Request) : Type 0 where
  pub key : PuzzleKey
  pub budget : ℕ
  pub row : PuzzleRow
  pub asked : request.action ≡ Certify key budget
  pub allowed : (t : ℕ) → First world (caller_of world request.key) request.action t Allow
  pub kept : get world.puzzles key ≡ Some row
  pub unsettled : is_open row.state ≡ true

-- The request needs a search, and this is it: of the puzzle that the request names, as the world keeps it, within the
-- request's budget, for whoever has its key.
pub record IsSearchFor (world : World) (request : Request) (search : Wanted) : Type 0 where
  pub needs : NeedsSearch world request
  pub sender : request.key ≡ Some search.key
  pub name : search.name ≡ needs.key
  pub puzzle : search.puzzle ≡ needs.row.puzzle
  pub within : search.budget ≡ needs.budget

-- whatever search the request needs, what it finds is remembered
abbrev pub IsPrepared : World → Request → Option MemoView → Type 0
IsPrepared world request memo =
    (search : Wanted) → IsSearchFor world request search → Remembers memo search.puzzle search.budget

-- the search that the request needs; or none, where nothing is left to search
abbrev pub IsFoundFor : World → Request → Option MemoView → Option Wanted → Type 0
IsFoundFor world request memo (Some search) = IsSearchFor world request search
IsFoundFor world request memo None = IsPrepared world request memo

-- the search is of the puzzle that was found under the name, of which no search came to an end yet, within the budget,
-- for whoever has the key
pub record IsSearchOfFound (found : Option PuzzleRow) (sender : List ℕ) (name : PuzzleKey) (budget : ℕ)
    (search : Wanted) : Type 0 where
  pub row : PuzzleRow
  pub is : found ≡ Some row
  pub unsettled : is_open row.state ≡ true
  pub sent : search.key ≡ sender
  pub named : search.name ≡ name
  pub puzzle : search.puzzle ≡ row.puzzle
  pub within : search.budget ≡ budget

-- it is; or there is none, where no puzzle was found, a search of it came to an end, or what one found is remembered
abbrev pub IsFoundOf : Option PuzzleRow → List ℕ → PuzzleKey → ℕ → Option MemoView → Option Wanted → Type 0
IsFoundOf found sender name budget memo (Some search) = IsSearchOfFound found sender name budget search
IsFoundOf found sender name budget memo None =
    (row : PuzzleRow) → found ≡ Some row → is_open row.state ≡ true → Remembers memo row.puzzle budget

-- The request asks for the table of a round that the world keeps, and that is published; and the rules allow it to
-- whoever has its key, or has none, at whatever moment it is asked.
pub record AsksTable (world : World) (request : Request) : Type 0 where
  pub id : List ℕ
  pub round : Round
  pub asked : request.action ≡ Table id
  pub allowed : (t : ℕ) → First world (caller_of world request.key) request.action t Allow
  pub kept : get world.rounds id ≡ Some round
  pub published : IsTrue round.published

-- The request asks for the answers of a round that the world keeps, and whoever has its key is a director or a referee;
-- and the rules allow it at whatever moment it is asked.
pub record AsksListing (world : World) (request : Request) : Type 0 where
  pub id : List ℕ
  pub round : Round
  pub asked : request.action ≡ Answers id
  pub sender : TheCaller (caller_of world request.key)
      (λ person. IsTrue (person.roles.director || person.roles.referee))
  pub allowed : (t : ℕ) → First world (caller_of world request.key) request.action t Allow
  pub kept : get world.rounds id ≡ Some round

-- a request that is to wait needs a search, or asks for a table or for the answers of a round, over an honest store
-- that serves
abbrev pub MayWait : Content → Request → Type 0
MayWait content request =
    content.honest → content.serves →
    NeedsSearch content.world request ⊎ AsksTable content.world request ⊎ AsksListing content.world request
