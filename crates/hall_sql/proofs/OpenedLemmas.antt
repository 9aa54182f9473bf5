-- What an opened store shows of the files.
use Rattle.std.proofs.Common.{◌≡◌, ◌⊎◌, inl, inr, false, true, None, IsSome, List, [], ◌∷◌, length, sym, ap, subst}
use Rattle.std.proofs.Common.{refl, ◌∙◌, arith}
use Rattle.std.proofs.Math.Logic.{∥∥₁_elim}
use Rattle.std.specs.List.{AllZip}
use Rattle.sqlite_trees.specs.declared.memory.MemStore.{MemStore}
use Rattle.sqlite_trees.specs.Props.{Trees-set}
use Rattle.sqlite_trees.specs.View.{doubt}
use Rattle.sqlite.specs.Effect.{Database}
use Rattle.sqlite.specs.Files.{AreFoundIn}
use Rattle.sqlite.specs.Held.{Held, state}
use Rattle.sqlite.specs.Recovery.{Image}
use Rattle.sqlite.specs.Schema.{Schema}
use Rattle.sqlite.specs.Start.{FindsIn}
use Rattle.sqlite.specs.State.{State, HasCleanDisk}
use Rattle.sqlite.specs.Steps.{IsEmpty, over_memory}
use Rattle.sqlite.specs.Tree.{Trees}
use Rattle.sqlite_catalog.specs.Listing.{IsSound}
use Rattle.hall_policy.specs.World.{World}
use Rattle.hall_store.specs.Maps.{empty_world}
use Rattle.hall_sql.specs.AdoptCause.{AdoptFails}
use Rattle.hall_sql.specs.Tables.{IsHallSchema, no_schema, hall_schema}
use Rattle.hall_sql.specs.Migrate.{StandsForOld, old_content_of}
use Rattle.hall_sql.specs.Stands.{ListsLike, StandsFor}
use Rattle.hall_sql.specs.Rows.{world_of}
use Rattle.hall_sql.specs.Standing.{IsBareDatabase, StoodOrEmpty, HasAdopted, HasAdoptedOld, MakesAtMost}
use Rattle.hall_sql.specs.Content.{content_of}
use Rattle.hall_sql.specs.WholeRows.{without_testers}
use Rattle.hall_sql.specs.Opened.{FindsAs, IsImageFound, MemoryServes, OneWorldIsFound, Starts, StartsOld}
use Rattle.hall_sql.proofs.AdoptLemmas.{bare_world}
use Rattle.hall_sql.proofs.StoreLemmas.{opens_hall}
use Rattle.hall_sql.proofs.Wordings.{hall_in, like_itself, worded}

-- the database of a connection that was taken over
stood : (old new : State) → IsSound old.now.schema old.now.trees → StoodOrEmpty old new
    → StandsFor old.now.trees (world_of new.now.trees)
stood old new sound (inl same) =
    inl ((old.now.schema, same.0, sound), ap (λ (d : Database). world_of d.trees) same.1)
stood old new sound (inr none) =
    inr (subst (λ (s : Schema). IsSound s old.now.trees) none.0 sound, bare_world new.now.trees none.1.empty)

-- files without a byte hold no table
from_nothing : (image : Image) (db : Trees) (world : World) → AreFoundIn image db → StandsFor db world → image.db ≡ []
    → world ≡ empty_world
from_nothing image db world found (inr none) bytes = none.1
from_nothing image db world (inl found) (inl stands) bytes =
    let some = found.3.found.present in
    let len : length image.db ≡ 0 = ap length bytes in
    absurd (omega (arith, some, len))
from_nothing image db world (inr empty) (inl stands) bytes =
    let (u, words) = worded stands.0.0 stands.0.1 in
    let sound : IsSound (hall_in u) db = subst (λ (s : Schema). IsSound s db) words stands.0.2 in
    absurd (rw empty.1.1 at sound.lists.listed.tables)

-- what the database that was found stands for
found_as : (Stands : Trees → World → Type 0) (image : Image) (s : State) (world : World) → FindsIn image s
    → Stands s.committed.trees world → FindsAs Stands image world
found_as Stands image s world has stands = record {
  holds = λ db held. subst (λ (d : Trees). Stands d world) (∥∥₁_elim held (Trees-set _ _) (has.holds db)) stands;
  reads = (s.committed.trees, has.reads, stands);
}

pub starts : (image : Image) (old new : State) → IsImageFound image old → HasAdopted old new
    → Starts image (content_of new)
starts image old new file adopted clean =
    let was : HasCleanDisk old = omega (arith, adopted.follows.lasts.clean, clean) in
    let is = file.opened was in
    let has = file.found was in
    let stands : StandsFor old.committed.trees (world_of new.now.trees) =
    subst (λ (d : Database). StandsFor d.trees (world_of new.now.trees)) is.0.clean
    (stood old new (is.1 is.0.is_open).0 (adopted.stood clean)) in (
      adopted.serves clean,
      record {
        found = found_as StandsFor image old (world_of new.now.trees) has stands;
        nothing = from_nothing image old.committed.trees (world_of new.now.trees) has.reads stands;
      },
    )

pub starts_old : (image : Image) (old new : State) → IsImageFound image old → HasAdoptedOld old new
    → StartsOld image (old_content_of new)
starts_old image old new file adopted clean =
    let was : HasCleanDisk old = omega (arith, adopted.follows.lasts.clean, clean) in
    let is = file.opened was in
    let has = file.found was in
    let same = adopted.stood clean in
    let world : World = without_testers (world_of new.now.trees) in
    let stands : StandsForOld old.now.trees world = (
      (old.now.schema, same.0, (is.1 is.0.is_open).0),
      ap (λ (d : Database). without_testers (world_of d.trees)) same.1,
    ) in (
      adopted.serves clean,
      found_as StandsForOld image old world has (subst (λ (d : Database). StandsForOld d.trees world) is.0.clean
          stands),
    )

-- a bare hall opens to the empty world, so a stop while the tables are made leaves that, or what it could leave before
pub new_hall_is_empty : (old new : State) → MakesAtMost old new → HasCleanDisk new → (left : World)
    → (content_of new).may_leave left
    → (content_of old).may_leave left ⊎ ((old.now.schema ≡ no_schema) × (left ≡ empty_world))
new_hall_is_empty old new makes clean left it = elim (makes clean it.0 it.1) [
  | inl earlier ↦ inl (it.0, earlier, it.2)
  | inr made ↦
      let empty = bare_world it.0 made.1.1 in
      inr (made.0, opens_hall empty_world it.0 left ((hall_schema, like_itself hall_schema, made.1.0), empty) it.2)
]

-- a list with a table is not one with none
apart : {A B : Type 0} (R : A → B → Type 0) (rows : List A) (b : B) (bs : List B) → AllZip R rows (b ∷ bs)
    → AllZip R rows [] → ⊥
apart R [] b bs some none = some
apart R (row ∷ rows) b bs some none = none

pub never_both : (db : Trees) → ListsLike hall_schema db → IsSound no_schema db → ⊥
never_both db hall none =
    let (u, words) = worded hall.0 hall.1 in
    let sound : IsSound (hall_in u) db = subst (λ (s : Schema). IsSound s db) words hall.2 in
    apart _ _ _ _ sound.lists.listed.tables none.lists.listed.tables

pub same_world : (db : Trees) (one other : World) → StandsFor db one → StandsFor db other → one ≡ other
same_world db one other (inl a) (inl b) = a.1 ∙ sym b.1
same_world db one other (inl a) (inr b) = absurd (never_both db a.0 b.0)
same_world db one other (inr a) (inl b) = absurd (never_both db b.0 a.0)
same_world db one other (inr a) (inr b) = a.1 ∙ sym b.1

pub one_world : OneWorldIsFound
one_world image held found has finds = same_world has.db found held (finds.found.holds has.db has.held) has.stands

pub memory_serves : MemoryServes
unfolding doubt
memory_serves held = (refl, refl)

-- a database without a table that was taken over holds an empty world
hall_is_some : (schema : Schema) → schema ≡ no_schema → ¬ IsHallSchema schema
hall_is_some schema none like = (subst IsHallSchema none like).tables

pub from_empty : (old new : State) → old.now.schema ≡ no_schema → StoodOrEmpty old new
    → world_of new.now.trees ≡ empty_world
from_empty old new none (inl same) = absurd (hall_is_some old.now.schema none same.0)
from_empty old new none (inr empty) = bare_world new.now.trees empty.1.empty

-- over memory the disk is clean
pub empty_in_memory : (conn store : Held MemStore) → IsEmpty (state over_memory conn)
    → HasAdopted (state over_memory conn) (state over_memory store) → (content_of (state over_memory store)).world ≡
    empty_world
empty_in_memory conn store empty adopted =
    from_empty (state over_memory conn) (state over_memory store) empty.2 (adopted.stood (memory_serves store).0)

made_bare : (old new : State) → old.now.schema ≡ no_schema → StoodOrEmpty old new → IsBareDatabase hall_schema new.now
made_bare old new none (inl same) = absurd (hall_is_some old.now.schema none same.0)
made_bare old new none (inr made) = made.1

pub bare_in_memory : (conn store : Held MemStore) → IsEmpty (state over_memory conn)
    → HasAdopted (state over_memory conn) (state over_memory store)
    → IsBareDatabase hall_schema (state over_memory store).now
bare_in_memory conn store empty adopted =
    made_bare (state over_memory conn) (state over_memory store) empty.2 (adopted.stood (memory_serves store).0)

-- and no connection is refused
pub refused_in_memory : (conn left : Held MemStore) → IsEmpty (state over_memory conn) → conn.step_limit ≡ None
    → ¬ (AdoptFails (state over_memory conn) (state over_memory left))
refused_in_memory conn left empty free (inl inside) = let no : false ≡ true = sym empty.0.autocommit ∙ inside in cc
refused_in_memory conn left empty free (inr (inl (inl (inl more)))) = omega (arith, more)
refused_in_memory conn left empty free (inr (inl (inl (inr top)))) = omega (arith, top)
refused_in_memory conn left empty free (inr (inl (inr shut))) = let no : false ≡ true = sym shut ∙ empty.0.is_open in cc
refused_in_memory conn left empty free (inr (inr (inl limit))) = let no : false ≡ true = subst IsSome free limit in cc
refused_in_memory conn left empty free (inr (inr (inr foreign))) = foreign.0 empty.2
