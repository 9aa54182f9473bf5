-- Rows in the order of their keys, and what a comparison makes of them.
use Rattle.std.specs.Prelude.{◌≡◌, ◌<◌, ℕ, List, length, map, slice_index_or}
use Rattle.std.specs.List.Sorted.{IsNonDecreasingBy, IsStrictlySortedBy}
use Rattle.std.specs.Ordering.{ordering_index}
use Rattle.std.specs.declared.cmp.Ordering.{Ordering}
use Rattle.std.specs.declared.cmp.Ordering.TheVariants.{Less, Equal}
use Rattle.hall_policy.specs.Text.{text_cmp}
use Rattle.hall_policy.specs.World.{puzzle_cmp, place_cmp, tester_cmp}
use Rattle.hall_policy.specs.declared.record.Entry.{Entry}
use Rattle.hall_policy.specs.declared.record.Person.{Person}
use Rattle.hall_policy.specs.declared.record.PlaceKey.{PlaceKey}
use Rattle.hall_policy.specs.declared.record.PuzzleRow.{PuzzleRow}
use Rattle.hall_policy.specs.declared.record.Round.{Round}
use Rattle.hall_policy.specs.declared.record.TesterKey.{TesterKey}

-- the rows of each table stand in the order of their keys, and no key is there twice
abbrev pub AreOrdered : List Person → List PuzzleRow → List Round → List (PlaceKey × Entry)
    → List (TesterKey × Unit {0}) → Type 0
AreOrdered people puzzles rounds places testers =
    IsStrictlySortedBy text_cmp (map (λ person. person.name) people)
    × IsStrictlySortedBy puzzle_cmp (map (λ row. row.key) puzzles)
    × IsStrictlySortedBy text_cmp (map (λ round. round.id) rounds)
    × IsStrictlySortedBy place_cmp (map (λ place. place.0) places)
    × IsStrictlySortedBy tester_cmp (map (λ tester. tester.0) testers)

-- the rows that are less come first and those that are greater last, and of those before one that ties each is less
pub record IsDivided {X : Type 0} (order : X → Ordering) (rows : List X) : Type 0 where
  pub rise : IsNonDecreasingBy (λ row. ordering_index (order row)) rows
  pub once : (i j : ℕ) (d : X) → i < j → j < length rows → order (slice_index_or rows j d) ≡ Equal
      → order (slice_index_or rows i d) ≡ Less
