-- The searches that requests wait for.
use Rattle.std.specs.Prelude.{◌≡◌, ◌≢◌, ◌+◌, ◌*◌, ◌<◌, ◌≤◌, ◌⊎◌, ℕ, List, Option, Some, None, length, get_or}
use Rattle.std.specs.Prelude.{slice_set, min, Result, Ok, Err}
use Rattle.hall_grid.specs.Board.{Board, cells}
use Rattle.hall_grid.specs.declared.board.Kind.{Kind}
use Rattle.hall_grid.specs.declared.board.Kind.TheVariants as kind
use Rattle.hall_policy.specs.declared.record.PuzzleKey.{PuzzleKey}
use Rattle.hall_solve.specs.Searched.{visits_made, visits_of}
use Rattle.hall_desk.specs.Finding.{FindingView}
use Rattle.hall_desk.specs.declared.under_way.Underway.{Underway}
use Rattle.hall_desk.specs.declared.wanted_search.Wanted.{Wanted}

-- the searches under way, how often any was asked for, and how often it was when one came to its end last
pub record SearchesView : Type 0 where
  pub places : List (Option Underway)
  pub asked : ℕ
  pub ended : ℕ

-- the search is under way at the place
abbrev pub IsAt : List (Option Underway) → ℕ → Underway → Type 0
IsAt places place underway = get_or places place None ≡ Some underway

-- there are eight places, each with a search or none, and no two searches are for one key
pub record AreUnderWay (places : List (Option Underway)) : Type 0 where
  pub eight : length places ≡ 8
  pub alone : (i j : ℕ) (a b : Underway) → IsAt places i a → IsAt places j b → a.key ≡ b.key → i ≡ j

-- no search is under way for the key, but perhaps at the place
abbrev pub IsFreeFor : List (Option Underway) → List ℕ → ℕ → Type 0
IsFreeFor places key place = (other : ℕ) (a : Underway) → IsAt places other a → a.key ≡ key → other ≡ place

-- this search was put to the place, and nothing else changed
abbrev pub IsPutAt : List (Option Underway) → ℕ → Underway → List (Option Underway) → Type 0
IsPutAt old place put new = new ≡ slice_set old place (Some put)

-- the search is the wanted one: of that puzzle, within that budget
pub record IsWanted (wanted : Wanted) (underway : Underway) : Type 0 where
  pub puzzle : underway.search.puzzle ≡ wanted.puzzle
  pub within : underway.search.budget ≡ wanted.budget

-- how many cells the visits of a turn look at, at most, by kind
abbrev pub cells_of_turn : Kind → ℕ
cells_of_turn kind.Sudoku = 20000
cells_of_turn kind.Slither = 5000
cells_of_turn kind.Nurikabe = 3000

-- so many visits of a search of the puzzle are a turn's: one at least, and more only where they look at so few cells
abbrev pub IsWorkOfTurn : Board → ℕ → Type 0
IsWorkOfTurn puzzle visits =
    (0 < visits) × ((visits ≡ 1) ⊎ (visits * cells puzzle.size ≤ cells_of_turn puzzle.kind))

-- The search gives way to the one that is wanted: another puzzle was put under its name since it began, or it wasn't
-- asked for while any were a million times.
abbrev pub GivesWay : ℕ → Wanted → Underway → Type 0
GivesWay asked wanted a =
    ((a.name ≡ wanted.name) × (a.search.puzzle ≢ wanted.puzzle)) ⊎ (a.last + 1000000 < asked)

-- what is at the place, if anything is, gives way
abbrev pub IsOpenFor : SearchesView → Wanted → ℕ → Type 0
IsOpenFor searches wanted place = (a : Underway) → IsAt searches.places place a → GivesWay searches.asked wanted a

-- a search that stays is at the place
abbrev pub StaysAt : SearchesView → Wanted → ℕ → Underway → Type 0
StaysAt searches wanted place a = IsAt searches.places place a × ¬ (GivesWay searches.asked wanted a)

-- No search may begin now: one came to its end when any was asked for last; or one for the same key stays; or one does
-- at each of the places.
abbrev pub HasNoPlace : SearchesView → Wanted → Type 0
HasNoPlace searches wanted =
    (searches.asked ≤ searches.ended + 1)
    ⊎ ((place : ℕ) × (a : Underway) × StaysAt searches wanted place a × (a.key ≡ wanted.key))
    ⊎ ((place : ℕ) → place < length searches.places → (a : Underway) × StaysAt searches wanted place a)

-- the search is of the puzzle, within the budget, after so many visits; it is for whoever has the key, under the name,
-- and was asked for at this time last
pub record IsAsked (sender : List ℕ) (named : PuzzleKey) (puzzle : Board) (budget visits time : ℕ) (a : Underway)
    : Type 0 where
  pub key : a.key ≡ sender
  pub name : a.name ≡ named
  pub of : a.search.puzzle ≡ puzzle
  pub within : a.search.budget ≡ budget
  pub made : a.search.visits ≡ visits
  pub last : a.last ≡ time

-- the wanted search began at a place that was open for it
pub record Begins (old : SearchesView) (wanted : Wanted) (new : List (Option Underway)) : Type 0 where
  pub place : ℕ
  pub inside : place < length old.places
  pub room : IsOpenFor old wanted place
  pub a : Underway
  pub is : IsAsked wanted.key wanted.name wanted.puzzle wanted.budget 0 old.asked a
  pub put : IsPutAt old.places place a new

-- the same search after so many more visits, asked for now
abbrev pub IsWorked : SearchesView → Underway → ℕ → Underway → Type 0
IsWorked searches a more b =
    IsAsked a.key a.name a.search.puzzle a.search.budget (a.search.visits + more) searches.asked b

-- the wanted search, which is under way at the place, has the visits of a turn
pub record Works (old : SearchesView) (wanted : Wanted) : Type 0 where
  pub place : ℕ
  pub a : Underway
  pub at : IsAt old.places place a
  pub is : IsWanted wanted a
  pub more : ℕ
  pub some : IsWorkOfTurn wanted.puzzle more

-- it made them, isn't at its end, and stays where it was
abbrev pub Pauses : SearchesView → Wanted → List (Option Underway) → Type 0
Pauses old wanted new =
    (work : Works old wanted) × (work.a.search.visits + work.more < wanted.budget) × (b : Underway)
    × IsWorked old work.a work.more b × IsPutAt old.places work.place b new

-- it came to its end within them, and is taken off
abbrev pub Ends : SearchesView → Wanted → FindingView → List (Option Underway) → Type 0
Ends old wanted finding new =
    (work : Works old wanted) × (new ≡ slice_set old.places work.place None) × (finding.puzzle ≡ wanted.puzzle)
    × (finding.budget ≡ wanted.budget) × (visits_made (visits_of finding.searched) ≤ work.a.search.visits + work.more)

-- the wanted search isn't under way
abbrev pub IsUnasked : SearchesView → Wanted → Type 0
IsUnasked searches wanted = (place : ℕ) (a : Underway) → IsAt searches.places place a → ¬ (IsWanted wanted a)

-- Who wants the search waits for it: it made the visits of a turn; or it wasn't under way and began, or had no place.
abbrev pub Waits : SearchesView → Wanted → List (Option Underway) → Type 0
Waits old wanted new =
    Pauses old wanted new
    ⊎ (IsUnasked old wanted × (Begins old wanted new ⊎ (new ≡ old.places) × HasNoPlace old wanted))

-- memory was refused: the wanted search is gone, or didn't begin
abbrev pub Loses : SearchesView → Wanted → List (Option Underway) → Type 0
Loses old wanted new =
    (new ≡ old.places) ⊎ ((work : Works old wanted) × (new ≡ slice_set old.places work.place None))

-- it was asked for once more
abbrev pub asked_once : SearchesView → SearchesView
asked_once searches = record searches { asked = min 18446744073709551615 (searches.asked + 1) }

-- What came of going on with the wanted search, where any was asked for so often with this time.
abbrev pub HasWorked : {E : Type 0} → SearchesView → Wanted → Result (Option FindingView) E → SearchesView → Type 0
HasWorked now wanted (Ok (Some finding)) new =
    Ends now wanted finding new.places × (new.asked ≡ now.asked) × (new.ended ≡ now.asked)
HasWorked now wanted (Ok None) new =
    Waits now wanted new.places × (new.asked ≡ now.asked) × (new.ended ≡ now.ended)
HasWorked now wanted (Err fault) new =
    Loses now wanted new.places × (new.asked ≡ now.asked) × (new.ended ≡ now.ended)

-- the searches under way are these, or none were yet
abbrev pub AreOrNone : Option SearchesView → SearchesView → Type 0
AreOrNone (Some searches) now = now ≡ searches
AreOrNone None now =
    ((place : ℕ) (a : Underway) → ¬ (IsAt now.places place a)) × (now.asked ≡ 1) × (now.ended ≡ 0)

-- who wants the search waits for it, after what came of going on with it
abbrev pub WaitsAmong : Option SearchesView → Wanted → Option SearchesView → Type 0
WaitsAmong old wanted new =
    (before after : SearchesView) × AreOrNone old before × (new ≡ Some after)
    × Waits (asked_once before) wanted after.places × (after.asked ≡ (asked_once before).asked)
    × (after.ended ≡ before.ended)
