-- The names of rules, sets of them as numbers, and how a verdict is written.
use Rattle.std.specs.Prelude.{◌≡◌, ◌↔◌, ◌⊎◌, IsTrue, ℕ, ◌<◌, Bool, not, List, [], ◌∷◌, ◌++◌, codes, bit_and, ◌^◌}
use Rattle.std.specs.Prelude.{◌==◌, if◌then◌else◌, IsBitSet}
use Rattle.std.specs.List.{flat_map}
use Rattle.hall_grid.specs.declared.rule.TheConstants.{NAMES}
use Rattle.hall_grid.specs.declared.rule.Rule.{Rule}
use Rattle.hall_grid.specs.declared.rule.Rule.TheVariants.{A0, U1, U2, U3, U4, S1, S2, S3, S4, S5, N1, N2, N3, N4, N5}
use Rattle.hall_grid.specs.declared.rule.Rule.TheVariants.{N6}

-- the place of a name in the table of names, from 0
abbrev pub place : Rule → ℕ
place A0 = 0
place U1 = 1
place U2 = 2
place U3 = 3
place U4 = 4
place S1 = 5
place S2 = 6
place S3 = 7
place S4 = 8
place S5 = 9
place N1 = 10
place N2 = 11
place N3 = 12
place N4 = 13
place N5 = 14
place N6 = 15

-- the set, the sum of 2^place over its names, has this name
abbrev pub Names : ℕ → Rule → Type 0
Names names rule = IsBitSet names (place rule)

-- a set has no names beyond those of the table
abbrev pub IsNameSet : ℕ → Type 0
IsNameSet names = names < 2 ^ NAMES

-- new is old with the name where its sentence holds
pub record Adds (old new : ℕ) (rule : Rule) (holds : Bool) : Type 0 where
  pub each : (other : Rule) → Names new other ↔ (Names old other ⊎ ((other ≡ rule) × IsTrue holds))
  pub set : IsNameSet new

-- the table of names
abbrev pub all_rules : List Rule
all_rules = A0 ∷ U1 ∷ U2 ∷ U3 ∷ U4 ∷ S1 ∷ S2 ∷ S3 ∷ S4 ∷ S5 ∷ N1 ∷ N2 ∷ N3 ∷ N4 ∷ N5 ∷ N6 ∷ []

-- a name as it is written
abbrev pub name_of : Rule → List ℕ
name_of A0 = codes "A0"
name_of U1 = codes "U1"
name_of U2 = codes "U2"
name_of U3 = codes "U3"
name_of U4 = codes "U4"
name_of S1 = codes "S1"
name_of S2 = codes "S2"
name_of S3 = codes "S3"
name_of S4 = codes "S4"
name_of S5 = codes "S5"
name_of N1 = codes "N1"
name_of N2 = codes "N2"
name_of N3 = codes "N3"
name_of N4 = codes "N4"
name_of N5 = codes "N5"
name_of N6 = codes "N6"

-- whether the set has this name
abbrev pub is_named : ℕ → Rule → Bool
is_named names rule = not (bit_and names (2 ^ place rule) == 0)

-- a name after one space where the set has it
abbrev pub named_text : ℕ → Rule → List ℕ
named_text names rule = if is_named names rule then 32 ∷ name_of rule else []

-- a verdict as it is written: right for the empty set, else the names of the set in the table's order
abbrev pub verdict_text : ℕ → List ℕ
verdict_text names = if names == 0 then codes "right" else codes "wrong" ++ flat_map (named_text names) all_rules
