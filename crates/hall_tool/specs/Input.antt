-- The input of the commands judge and solve: lines of at most 8,192 bytes together.
use Rattle.std.specs.Prelude.{◌≡◌, ℕ, ◌≤◌, Option, List, [], ◌∷◌, length, take, IfSome}
use Rattle.std.specs.Str.Lines.{lines}

-- known input is this up to the limit
abbrev pub IsFront : ℕ → Option (List ℕ) → List ℕ → Type 0
IsFront limit known bytes = IfSome known (λ all. bytes ≡ take limit all)

-- this is the input, where that is known
abbrev pub IsInput : Option (List ℕ) → List ℕ → Type 0
IsInput known input = IfSome known (λ all. input ≡ all)

-- the input is at most 8,192 bytes in two lines: each ends with a line feed, which the last one may lack,
-- and loses a carriage return before it
abbrev pub HasTwoLines : List ℕ → List ℕ → List ℕ → Type 0
HasTwoLines input first second = (length input ≤ 8192) × (lines input ≡ first ∷ second ∷ [])

-- the input is longer, or has another number of lines than two
abbrev pub LacksTwoLines : List ℕ → Type 0
LacksTwoLines input = (first second : List ℕ) → HasTwoLines input first second → ⊥

-- the input is at most 8,192 bytes in one line
abbrev pub HasOneLine : List ℕ → List ℕ → Type 0
HasOneLine input line = (length input ≤ 8192) × (lines input ≡ line ∷ [])

-- the input is longer, or has another number of lines than one
abbrev pub LacksOneLine : List ℕ → Type 0
LacksOneLine input = (line : List ℕ) → HasOneLine input line → ⊥
