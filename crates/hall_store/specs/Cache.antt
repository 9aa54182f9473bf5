-- What a cache before a store holds of it.
use Rattle.std.specs.Prelude.{◌≡◌, ◌≤◌, ◌⊎◌, [], Some, length}
use Rattle.std.specs.declared.cmp.Ordering.{Ordering}
use Rattle.std.specs.declared.cmp.Ordering.TheVariants.{Equal}
use Rattle.std.specs.FinMap.{get}
use Rattle.std.specs.BTreeMap as tree
use Rattle.hall_policy.specs.Text.{text_cmp}
use Rattle.hall_policy.specs.World.{World, puzzle_cmp}
use Rattle.hall_store.specs.Caller.{IsKeyHolder}
use Rattle.hall_store.specs.Keyed.{Each}
use Rattle.hall_store.specs.Store.{Content, IsRoundKept}
use Rattle.hall_store.specs.declared.cache.Cache.{Cache}

-- Where the device was honest, the store serves, and this holds of its world.
abbrev pub Stands : Content → (World → Type 0) → Type 0
Stands content Holds = content.honest → content.serves × Holds content.world

-- at most 5,000 copies of people, and 1,000 of either other kind
pub record IsBounded (cache : Cache) : Type 0 where
  pub people : length cache.people.entries ≤ 5000
  pub rounds : length cache.rounds.entries ≤ 1000
  pub puzzles : length cache.puzzles.entries ≤ 1000

-- each copy is what the store would tell, and there are at most so many of each kind
pub record CacheAgrees (content : Content) (cache : Cache) : Type 0 where
  pub people : Each text_cmp cache.people.entries
      (λ key person. Stands content (λ world. IsKeyHolder world key (Some person)))
  pub rounds : Each text_cmp cache.rounds.entries
      (λ id row. Stands content (λ world. IsRoundKept world id (Some row)))
  pub puzzles : Each puzzle_cmp cache.puzzles.entries
      (λ key row. Stands content (λ world. get world.puzzles key ≡ Some row))
  pub bounded : IsBounded cache

-- there is no copy
pub record IsEmptied (cache : Cache) : Type 0 where
  pub people : cache.people.entries ≡ []
  pub rounds : cache.rounds.entries ≡ []
  pub puzzles : cache.puzzles.entries ≡ []

-- what the map has now it had before, or it is this value under this key
abbrev pub IsNoted : {K X : Type 0} → (K → K → Ordering) → tree.BTreeMap K X → tree.BTreeMap K X → K → X → Type 0
IsNoted {K} {X} R old new key value =
    Each R new.entries (λ k x. (R key k ≡ Equal) × (x ≡ value) ⊎ (tree.get R old k ≡ Some x))
