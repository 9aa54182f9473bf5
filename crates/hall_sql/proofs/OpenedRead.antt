-- A hall of either version that was found in the files at a path.
use Rattle.std.proofs.Common.{◌≡◌, inl, inr, ℕ, Bool, false, List}
use Rattle.sqlite_trees.specs.declared.store.Store.{Ghosts}
use Rattle.sqlite.specs.Held.{Held, state}
use Rattle.sqlite.specs.Recovery.{Image}
use Rattle.sqlite.specs.State.{State}
use Rattle.hall_sql.specs.Opened.{IsImageFound}
use Rattle.hall_sql.specs.OpenedRead.{HasFoundHall, IsTakenToRead, OpensToRead, StartsToRead}
use Rattle.hall_sql.specs.Standing.{AddsNoOutcome, HasAdopted, MakesAtMost, StoodOrEmpty}
use Rattle.hall_sql.specs.Tables.{IsHallSchema, no_schema}
use Rattle.hall_sql.specs.declared.open_read.FoundHall.{FoundHall}
use Rattle.hall_sql.specs.declared.open_read.FoundHall.TheVariants.{Present, Old}
use Rattle.hall_sql.proofs.OpenedLemmas.{starts, starts_old}

-- where there are tables, a hall that was taken over had them
pub found_hall : (was held : State) → (was.now.schema ≡ no_schema → ⊥) → HasAdopted was held → HasFoundHall was held
found_hall was held some adopted = (adopted, λ clean. go (adopted.stood clean))
  where
    go : StoodOrEmpty was held → IsHallSchema was.now.schema
    go (inl stood) = stood.0
    go (inr made) = absurd (some made.0)

-- and none were made
pub makes_none : (was left : State) → (was.now.schema ≡ no_schema → ⊥) → MakesAtMost was left → AddsNoOutcome was left
makes_none was left some makes clean db it = elim (makes clean db it) [
  | inl earlier ↦ earlier
  | inr made ↦ absurd (some made.0)
]

-- what the files handed out, and was taken over, is a hall that they held
pub opens_so : {F S : Type 0} (g : Ghosts S) (image_at : List ℕ → Image) (tells : F → List ℕ → Bool → F → Type 0)
    (opens : F → List ℕ → Held S → F → Type 0)
    (old there : F) (path : List ℕ) (was : Held S) (found : FoundHall S) (new : F) → tells old path false there
    → opens there path was new
    → IsImageFound (image_at path) (state g was) → IsTakenToRead g was found
    → OpensToRead g image_at tells opens old path found new
opens_so g image_at tells opens old there path was (Present held) new told opened file taken =
    (there, told, record { was = was; opened = opened; found = file; adopted = taken })
opens_so g image_at tells opens old there path was (Old held) new told opened file taken =
    (there, told, record { was = was; opened = opened; found = file; adopted = taken })

pub starts_so : {S : Type 0} (g : Ghosts S) (image : Image) (was : Held S) (found : FoundHall S)
    → IsImageFound image (state g was)
    → IsTakenToRead g was found → StartsToRead g image found
starts_so g image was (Present held) file taken = starts image (state g was) (state g held) file taken.0
starts_so g image was (Old held) file taken = starts_old image (state g was) (state g held) file taken
