-- What queries of the rounds' places tell.
use Rattle.std.specs.Prelude.{◌≡◌, ◌↔◌, ◌&&◌, ℕ, suc, Bool, List, Some, IsTrue, Contains, slice_get}
use Rattle.std.specs.declared.cmp.Ordering.{Ordering}
use Rattle.std.specs.Ordering.{nat_cmp}
use Rattle.std.specs.List.Sorted.{IsSorted, IsStrictlySortedBy}
use Rattle.std.specs.FinMap.{get}
use Rattle.hall_policy.specs.Text.{text_cmp}
use Rattle.hall_policy.specs.World.{World, same_text}
use Rattle.hall_policy.specs.declared.record.PlaceKey.{PlaceKey}
use Rattle.hall_policy.specs.declared.record.PuzzleKey.{PuzzleKey}
use Rattle.hall_policy.specs.declared.record.Entry.{Entry}

-- the puzzle stands at the place
abbrev pub has_puzzle : PuzzleKey → PlaceKey × Entry → Bool
has_puzzle key place = same_text place.1.puzzle.author key.author && same_text place.1.puzzle.label key.label

-- the places that pass the test, each with the puzzle there
abbrev pub ArePlaces : World → (PlaceKey × Entry → Bool) → List (PlaceKey × Entry) → Type 0
ArePlaces world test places =
    (place : PlaceKey × Entry) → Contains places place
    ↔ ((get world.places place.0 ≡ Some place.1) × IsTrue (test place))

-- the place is in the round
abbrev pub is_in_round : List ℕ → PlaceKey × Entry → Bool
is_in_round id place = same_text place.0.round id

-- the order of numbers
abbrev pub number_cmp : PlaceKey × Entry → PlaceKey × Entry → Ordering
number_cmp a b = nat_cmp a.0.number b.0.number

-- all places of the round, each once, in the order of their numbers
pub record AreListed (world : World) (id : List ℕ) (places : List (PlaceKey × Entry)) : Type 0 where
  pub whole : ArePlaces world (is_in_round id) places
  pub in_order : IsStrictlySortedBy number_cmp places

-- the places are numbered from 1 on
abbrev pub AreNumbered : List (PlaceKey × Entry) → Type 0
AreNumbered places = (i : ℕ) (place : PlaceKey × Entry) → slice_get places i ≡ Some place → place.0.number ≡ suc i

-- the order of rounds
abbrev pub round_cmp : PlaceKey × Entry → PlaceKey × Entry → Ordering
round_cmp a b = text_cmp a.0.round b.0.round

-- all places that have the puzzle, in the order of their rounds
pub record ArePlacesWith (world : World) (key : PuzzleKey) (places : List (PlaceKey × Entry)) : Type 0 where
  pub whole : ArePlaces world (has_puzzle key) places
  pub in_order : IsSorted round_cmp places
