-- Laws of puzzle texts, which `law_texts` proves.
use Rattle.std.specs.Prelude.{◌≡◌, ◌⊎◌, ℕ, List}
use Rattle.hall_grid.specs.declared.fault.TextFault.{TextFault}
use Rattle.hall_grid.specs.Board.{Board, IsBoard}
use Rattle.hall_grid.specs.Text.{SpellsText, FaultOf}
use Rattle.hall_grid.specs.Canonical.{CanonicalText}

-- no text spells two puzzles
abbrev pub SpellsOnePuzzle : Type 0
SpellsOnePuzzle = (text : List ℕ) (a b : Board) → SpellsText text a → SpellsText text b → a ≡ b

-- each text spells a puzzle or has a fault
abbrev pub SpellsOrHasFault : Type 0
SpellsOrHasFault =
    (text : List ℕ) → ((board : Board) × SpellsText text board) ⊎ ((fault : TextFault) × FaultOf text fault)

-- what a text spells is a puzzle: its sides, its clues and their numbers are in the limits
abbrev pub SpellsBoardsAlone : Type 0
SpellsBoardsAlone = (text : List ℕ) (board : Board) → SpellsText text board → IsBoard board

-- a text that spells a puzzle has no fault
abbrev pub SpelledHasNoFault : Type 0
SpelledHasNoFault = (text : List ℕ) (board : Board) (fault : TextFault) → SpellsText text board → FaultOf text fault → ⊥

-- two faults of a text are one
abbrev pub HasOneFault : Type 0
HasOneFault = (text : List ℕ) (a b : TextFault) → FaultOf text a → FaultOf text b → a ≡ b

-- the canonical text of a puzzle spells it
abbrev pub CanonicalSpells : Type 0
CanonicalSpells = (text : List ℕ) (board : Board) → IsBoard board → CanonicalText text board → SpellsText text board

-- each puzzle has a canonical text
abbrev pub HasCanonicalText : Type 0
HasCanonicalText = (board : Board) → IsBoard board → (text : List ℕ) × CanonicalText text board

-- a puzzle has one canonical text
abbrev pub HasOneCanonicalText : Type 0
HasOneCanonicalText =
    (a b : List ℕ) (board : Board) → IsBoard board → CanonicalText a board → CanonicalText b board → a ≡ b
