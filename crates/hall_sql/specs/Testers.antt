-- What queries of the rounds' testers tell.
use Rattle.std.specs.Prelude.{◌≡◌, ◌↔◌, Bool, ℕ, List, Some, IsTrue, Contains}
use Rattle.std.specs.declared.cmp.Ordering.{Ordering}
use Rattle.std.specs.List.Sorted.{IsStrictlySortedBy}
use Rattle.std.specs.FinMap.{get}
use Rattle.hall_policy.specs.Text.{text_cmp}
use Rattle.hall_policy.specs.World.{World, same_text}
use Rattle.hall_policy.specs.declared.record.TesterKey.{TesterKey}

-- the tester is one of the round
abbrev pub tests_round : List ℕ → TesterKey × Unit {0} → Bool
tests_round id tester = same_text tester.0.round id

-- the order of names
abbrev pub name_cmp : TesterKey × Unit {0} → TesterKey × Unit {0} → Ordering
name_cmp a b = text_cmp a.0.name b.0.name

-- all testers of the round, each once, in the order of their names
pub record AreNamed (world : World) (id : List ℕ) (testers : List (TesterKey × Unit {0})) : Type 0 where
  pub whole : (tester : TesterKey × Unit {0}) → Contains testers tester
      ↔ ((get world.testers tester.0 ≡ Some tester.1) × IsTrue (tests_round id tester))
  pub in_order : IsStrictlySortedBy name_cmp testers
