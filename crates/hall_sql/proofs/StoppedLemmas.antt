-- What the next run finds in the files that a stop leaves.
use Rattle.std.proofs.Common.{◌≡◌, ◌∙◌, inl, inr, IsTrue, refl, sym, ap, subst}
use Rattle.std.proofs.Math.Logic.{∥∥₁_map}
use Rattle.sqlite_disk.specs.declared.Disk.{Ghosts}
use Rattle.sqlite_store.specs.declared.store.FileStore.{FileStore}
use Rattle.sqlite_store.specs.FileStore as files
use Rattle.sqlite_trees.specs.View.{IsClean}
use Rattle.sqlite.specs.Tree.{Trees}
use Rattle.sqlite.specs.State.{State, HasCleanDisk, IsLive}
use Rattle.sqlite.specs.Effect.{Database}
use Rattle.sqlite.specs.Files.{HoldsDatabase}
use Rattle.sqlite.specs.Recovery.{Image}
use Rattle.sqlite_trees.specs.declared.store.Store as store
use Rattle.sqlite.specs.Held.{AreDatabases, Held, state}
use Rattle.sqlite.proofs.Theorems.{opens_again}
use Rattle.hall_sql.specs.Rows.{world_of}
use Rattle.hall_sql.specs.Standing.{IsHall}
use Rattle.hall_sql.specs.Content.{content_of}
use Rattle.hall_sql.specs.Stopped.{IsAtRest, StopsAreFound, StopsFind, StopsHold, StopsLeave}
use Rattle.hall_sql.proofs.OpenedLemmas.{never_both, same_world}
use Rattle.hall_sql.proofs.StoreLemmas.{lists_hall}

pub stops_found : {D : Type 0} {g : Ghosts D} (last : FileStore D g) (s : State)
    → (IsClean (files.view last) → IsTrue (files.view last).is_numbered)
    → (IsClean (files.view last) → AreDatabases (files.recovers last))
    → ((db : Trees) → files.recovers last db → s.may_leave db)
    → IsClean (files.view last) → StopsAreFound last s
stops_found last s numbered sound outcomes clean left may world finds =
    ∥∥₁_map (opens_again last (numbered clean) (sound clean) left may)
    (λ it. (it.0, outcomes it.0 it.1, finds.found.holds it.0 ∣ it.2 ∣₁))

-- so it is a world that a stop might leave of the content
pub stops_leave : {D : Type 0} {g : Ghosts D} (last : FileStore D g) (s : State) → StopsAreFound last s
    → StopsLeave last (content_of s)
stops_leave last s found left may world finds =
    ∥∥₁_map (found left may world finds) (λ it. (it.0, it.1, λ other stands. same_world it.0 world other it.2 stands))

-- at rest
pub rest_at : {S : Type 0} (g : store.Ghosts S) → ((s : S) (db : Trees) → IsTrue (g.view s).is_open → g.recovers s db
    → db ≡ (g.view s).committed)
    → (held : Held S) → IsHall (state g held) → IsAtRest (state g held)
rest_at g law held hall clean opens db may = law held.store db opens may
    ∙ sym (ap (λ (d : Database). d.trees) (hall.settled clean opens).0)

module _ {D : Type 0} {g : Ghosts D} (last : FileStore D g) (s : State)
    (numbered : IsClean (files.view last) → IsTrue (files.view last).is_numbered)
    (sound : IsClean (files.view last) → AreDatabases (files.recovers last))
    (outcomes : (db : Trees) → files.recovers last db → s.may_leave db)
    (hall : IsHall s) (live : IsLive s) (rest : IsAtRest s) (clean_of : IsClean (files.view last) → HasCleanDisk s)
    (clean : IsClean (files.view last)) (opens : IsTrue s.is_open) where
  holds_now : (left : Image) → (files.state last).may_leave left → ∥ HoldsDatabase left s.now.trees ∥₁
  holds_now left may =
      ∥∥₁_map (opens_again last (numbered clean) (sound clean) left may)
      (λ it. subst (HoldsDatabase left) (rest (clean_of clean) opens it.0 (outcomes it.0 it.1)) it.2)

  pub stops_hold : StopsHold last (world_of s.now.trees)
  stops_hold left may =
      ∣ record {
        db = s.now.trees;
        held = holds_now left may;
        stands = inl
            (lists_hall s hall live (clean_of clean) opens, refl);
      } ∣₁

  pub stops_find : StopsFind last (world_of s.now.trees)
  stops_find left may world finds = elim (finds.found.holds s.now.trees (holds_now left may)) [
    | inl stands ↦ stands.1
    | inr none ↦ absurd (never_both s.now.trees (lists_hall s hall live (clean_of clean) opens) none.0)
  ]
