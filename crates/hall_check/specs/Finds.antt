-- What was found of a sentence in the rows of a table.
use Rattle.std.specs.Prelude.{◌≡◌, ◌+◌, ◌<◌, ◌≤◌, ◌⊎◌, ◌++◌, List, [], ◌∷◌, length, map, take, Contains}
use Rattle.hall_check.specs.declared.sentence.Spot.{Spot}
use Rattle.hall_check.specs.declared.sentence.Breaches.{Breaches}

-- each of the rows has what is said
abbrev pub EveryRow : {X : Type 0} → (X → Type 0) → List X → Type 0
EveryRow {X} Says rows = (row : X) → Contains rows row → Says row

-- each row stands in one of two lists, and each list has its rows in their order
abbrev pub AreParted : {X : Type 0} → List X → List X → List X → Type 0
AreParted [] first second = (first ≡ []) × (second ≡ [])
AreParted {X} (row ∷ rows) first second =
    ((rest : List X) × (first ≡ row ∷ rest) × AreParted rows rest second)
    ⊎ ((rest : List X) × (second ≡ row ∷ rest) × AreParted rows first rest)

-- the sentence is true of some of the rows and false of all others: these are counted, and the first 20 of them are
-- named, in their order
pub record Finds {X : Type 0} (Says : X → Type 0) (spot_of : X → Spot) (rows : List X) (found : Breaches) : Type 0 where
  pub true_of : List X
  pub false_of : List X
  pub parted : AreParted rows true_of false_of
  pub is_true : EveryRow Says true_of
  pub is_false : EveryRow (λ row. ¬ (Says row)) false_of
  pub counted : found.count ≡ length false_of
  pub named : found.first.items ≡ take 20 (map spot_of false_of)

-- the place was put at the end, or stands behind the twenty that are named
abbrev pub IsNotedIn : List Spot → List Spot → Spot → Type 0
IsNotedIn before after spot =
    ((length before < 20) × (after ≡ before ++ spot ∷ [])) ⊎ ((20 ≤ length before) × (after ≡ before))

-- what is said is true and nothing changes, or it is false and one more is counted and named
abbrev pub IsBreachTold : Type 0 → Spot → Breaches → Breaches → Type 0
IsBreachTold Says spot old new =
    (Says × (new ≡ old))
    ⊎ (¬ Says × (new.count ≡ old.count + 1) × IsNotedIn old.first.items new.first.items spot)
