-- What a connection is once it is taken over, or is not.
use Rattle.std.proofs.Common.{◌≡◌, inl, inr, [], length, true, false, IsTrue, refl, sym, ap, subst, ◌∙◌, arith}
use Rattle.std.specs.List.{AllByRecursion}
use Rattle.sqlite_trees.specs.declared.store.Store.{Ghosts}
use Rattle.sqlite.specs.declared.error.Error.{Error}
use Rattle.sqlite.specs.Effect.{Database, IsDatabase}
use Rattle.sqlite.specs.Schema.{Schema}
use Rattle.sqlite_catalog.specs.Listing.{IsSound}
use Rattle.sqlite.specs.Tree.{Trees}
use Rattle.sqlite.specs.Held.{Held, state}
use Rattle.sqlite.specs.State.{State, HasCleanDisk, KeepsCounts, IsRolledBack, Shows, Survives}
use Rattle.sqlite.specs.Steps.{FailsToCommit}
use Rattle.hall_store.specs.Maps.{empty_world}
use Rattle.hall_sql.specs.Tables.{IsHallSchema, no_schema, hall_schema}
use Rattle.hall_sql.specs.Rows.{world_of}
use Rattle.hall_sql.specs.Stands.{IsBareHall}
use Rattle.hall_sql.specs.Standing.{AddsNoOutcome, LeadsConnection, AreKeyed, AreAllKeyed, KeptOrRolledBack}
use Rattle.hall_sql.specs.Standing.{IsBareDatabase, HasAdopted, HasDeclined, MakesAtMost, without_limit}
use Rattle.hall_sql.specs.Inside.{LeadsUncommitted}
use Rattle.hall_sql.specs.Made.{all_tables, Awaits, HasGrown}
use Rattle.hall_sql.specs.Scan.{AreScanned}
use Rattle.hall_sql.proofs.LastLemmas.{last_none, last_then, last_begun, last_lifted, quiet}
use Rattle.hall_sql.proofs.TransactionLemmas.{commit_refused}
use Rattle.hall_sql.proofs.Wordings.{like_itself}

-- tables with no rows hold nobody and nothing
pub bare_world : (trees : Trees) → AllByRecursion (λ table. trees table.tree ≡ []) hall_schema.tables
    → world_of trees ≡ empty_world
bare_world trees all = rw (all.0, all.1.0, all.1.1.0, all.1.1.1.0, all.1.1.1.1.0, all.1.1.1.1.1.0, all.1.1.1.1.1.1.0)

bare_keyed : (rows : _) → rows ≡ [] → AreKeyed rows
bare_keyed rows none = subst AreKeyed (sym none) (record { ints = tt; distinct = tt })

all_bare_keyed : (trees : Trees) → AllByRecursion (λ table. trees table.tree ≡ []) hall_schema.tables
    → AreAllKeyed trees
all_bare_keyed trees all = (
  bare_keyed _ all.0,
  (
    bare_keyed _ all.1.0,
    (
      bare_keyed _ all.1.1.0,
      (
        bare_keyed _ all.1.1.1.0,
        (bare_keyed _ all.1.1.1.1.0, (bare_keyed _ all.1.1.1.1.1.0, (bare_keyed _ all.1.1.1.1.1.1.0, tt))),
      ),
    ),
  ),
)

-- with no table at all, all seven are to be made
pub awaits_all : (held : Database) → held.schema ≡ no_schema → Awaits all_tables held
awaits_all held is = record {
  schema = no_schema;
  bare = record { is = is; empty = tt };
  uncounted = tt;
  lacks = (refl, (refl, (refl, (refl, (refl, (refl, (refl, refl)))))));
}

bare_hall : (held : Database) → Awaits [] held → IsBareDatabase hall_schema held
bare_hall held it = subst (λ s. IsBareDatabase s held) it.lacks it.bare

-- what changes nothing is refused
pub declined_itself : (s : State) → HasDeclined s s
declined_itself s = record {
  follows = record { lasts = last_none s; opened = λ clean opens. opens };
  mode = λ clean. refl;
  marks = λ clean inside. refl;
  same = λ clean opens. (refl, refl);
}

-- no transaction was open
none_open : (s : State) → s.in_transaction ≡ false → IsTrue s.in_transaction → ⊥
none_open s alone inside = let no : false ≡ true = sym alone ∙ inside in cc

-- what rests is refused
pub rests_declined : (old new : State) → old.in_transaction ≡ false → (IsTrue old.is_open → old.now ≡ old.committed)
    → LeadsConnection old new
    → (HasCleanDisk new → KeptOrRolledBack old new) → HasDeclined old new
rests_declined old new alone settled lasts rests = record {
  follows = record { lasts = lasts; opened = λ clean opens. was (rests clean) opens };
  mode = λ clean. mode (rests clean);
  marks = λ clean inside. absurd (none_open old alone inside);
  same = λ clean opens. same (rests clean) opens;
}
  where
    was : KeptOrRolledBack old new → IsTrue new.is_open → IsTrue old.is_open
    was (inl left) opens = left.0.was_open
    was (inr back) opens = back.was_open opens

    mode : KeptOrRolledBack old new → new.in_transaction ≡ old.in_transaction
    mode (inl left) = left.0.mode
    mode (inr back) = back.autocommit ∙ sym alone

    same : KeptOrRolledBack old new → IsTrue new.is_open → (new.now ≡ old.now) × (new.committed ≡ old.committed)
    same (inl left) opens = (left.0.now_is, left.0.committed_is)
    same (inr back) opens = ((back.undone opens).0 ∙ sym (settled (back.was_open opens)), (back.undone opens).1)

-- the hall's tables stood
pub scanned_adopted : (old new : State) → old.in_transaction ≡ false → (IsTrue old.is_open → old.now ≡ old.committed)
    → IsHallSchema old.now.schema
    → LeadsConnection old new → AddsNoOutcome old new → (HasCleanDisk new → AreScanned all_tables old new)
    → HasAdopted old (without_limit new)
scanned_adopted old new alone settled has lasts quiets scanned =
    let left = λ (clean : HasCleanDisk new). (scanned clean).left in
    let was = λ (clean : HasCleanDisk new). sym (left clean).is_open ∙ (scanned clean).serves in
    record {
      alone = alone;
      hall = record {
        unlimited = refl;
        autocommit = λ clean. (left clean).mode ∙ alone;
        settled = λ clean opens. (
          (left clean).now_is ∙ settled (was clean)
              ∙ sym (left clean).committed_is,
          subst (λ (d : Database). IsHallSchema d.schema) (sym (left clean).now_is)
              has,
        );
        keyed = λ clean opens. subst (λ (d : Database). AreAllKeyed d.trees) (sym (left clean).now_is)
            (scanned clean).keyed;
      };
      follows = record { lasts = last_lifted old new lasts; opened = λ clean opens. was clean };
      serves = λ clean. (scanned clean).serves;
      stood = λ clean. inl (has, (left clean).now_is);
      stops = λ clean db may. inl (quiets clean db may);
    }

module _ {S : Type 0} (g : Ghosts S) (held : Held S) (settled : IsTrue (state g held).is_open
    → (state g held).now ≡ (state g held).committed) where
  -- where the transaction began
  abbrev pub base : State
  base = state g (record held { in_transaction = true })

  -- rolled back, the tables are as they were
  pub rolled_declined : held.in_transaction ≡ false → (mid end : State) → LeadsUncommitted base mid
      → LeadsConnection mid end
      → (HasCleanDisk end → IsRolledBack mid end) → HasDeclined (state g held) end
  rolled_declined alone mid end carries lasts rolled =
      let now : HasCleanDisk end → HasCleanDisk mid = λ (clean : HasCleanDisk end). let was : HasCleanDisk mid = omega
      (arith, lasts.clean, clean) in was in
      let keeps = λ (clean : HasCleanDisk end). carries.kept (now clean) refl in
      let opens_mid = λ (clean : HasCleanDisk end) (opens : IsTrue end.is_open). (rolled clean).was_open opens in
      let opens_old = λ (clean : HasCleanDisk end) (opens : IsTrue end.is_open). (keeps clean).was_open
      (opens_mid clean opens) in
      record {
        follows = record {
          lasts = last_then (state g held) mid end (last_begun g held mid carries.lasts) lasts;
          opened = opens_old;
        };
        mode = λ clean. (rolled clean).autocommit ∙ sym alone;
        marks = λ clean inside. absurd (none_open (state g held) alone inside);
        same = λ clean opens.
            let committed = (keeps clean).committed (opens_mid clean opens) in (
              ((rolled clean).undone opens).0 ∙ committed ∙ sym (settled (opens_old clean opens)),
              ((rolled clean).undone opens).1 ∙ committed,
            );
      }

  -- so they are where the commit was refused
  pub refused_declined : held.in_transaction ≡ false → (error : Error) (mid end : State) → LeadsUncommitted base mid
      → (HasCleanDisk mid → IsTrue base.in_transaction → HasGrown all_tables [] base mid)
      → LeadsConnection mid end → (HasCleanDisk end → FailsToCommit mid end error) → HasDeclined (state g held) end
  refused_declined alone error mid end carries grown lasts fails =
      rolled_declined alone mid end carries lasts (λ clean.
      let was : HasCleanDisk mid = omega (arith, lasts.clean, clean) in
      commit_refused mid end error (grown was refl).mode (fails clean))

  -- what a commit of all seven may leave
  pub grown_stops : (mid end : State) → held.schema ≡ no_schema → LeadsUncommitted base mid
      → (HasCleanDisk mid → IsTrue base.in_transaction → HasGrown all_tables [] base mid)
      → Survives mid end (λ db. db ≡ mid.now.trees) → MakesAtMost (state g held) end
  grown_stops mid end none carries grown survives clean db may =
      let clean_mid : HasCleanDisk mid = omega (arith, survives.clean, clean) in
      elim (survives.crash clean db may) [
        | inl earlier ↦ inl (carries.stops clean_mid db earlier)
        | inr is ↦
            let it = grown clean_mid refl in
            let awaits = awaits_all base.now none in
            let bare = bare_hall mid.now (it.made awaits) in
            let sound : IsDatabase mid.now = elim (it.sound awaits) [
              | inl same ↦ absurd (let count = ap length same in cc)
              | inr holds ↦ holds
            ] in
            inr (
              none,
              subst IsBareHall (sym is) (
                subst (λ (schema : Schema). IsSound schema mid.now.trees) bare.is
                    sound,
                bare.empty,
              ),
            )
      ]

  -- and where nothing was committed
  pub rolled_stops : (mid end : State) → LeadsUncommitted base mid → Survives mid end (λ _. ⊥)
      → MakesAtMost (state g held) end
  rolled_stops mid end carries survives clean db may =
      let clean_mid : HasCleanDisk mid = omega (arith, survives.clean, clean) in
      inl (carries.stops clean_mid db (quiet mid end survives clean db may))

  -- committed, the hall stands with an empty world
  pub committed_adopted : held.in_transaction ≡ false → (mid end : State) → held.schema ≡ no_schema
      → LeadsUncommitted base mid → (HasCleanDisk mid → IsTrue base.in_transaction → HasGrown all_tables [] base mid)
      → LeadsConnection mid end → MakesAtMost (state g held) end → end.in_transaction ≡ false
      → (HasCleanDisk end → IsTrue mid.in_transaction × Shows mid end mid.now mid.now false × KeepsCounts mid end
      × (end.marks ≡ []))
      → HasAdopted (state g held) (without_limit end)
  committed_adopted alone mid end none carries grown lasts stops ended ok =
      let now : HasCleanDisk end → HasCleanDisk mid = λ (clean : HasCleanDisk end). let was : HasCleanDisk mid = omega
      (arith, lasts.clean, clean) in was in
      let bare : HasCleanDisk end → IsBareDatabase hall_schema end.now = λ (clean : HasCleanDisk end).
      subst (IsBareDatabase hall_schema) (sym (ok clean).1.now_is)
      (bare_hall mid.now ((grown (now clean) refl).made (awaits_all base.now none))) in
      record {
        alone = alone;
        hall = record {
          unlimited = refl;
          autocommit = λ clean. ended;
          settled = λ clean opens. (
            (ok clean).1.now_is ∙ sym (ok clean).1.committed_is,
            subst IsHallSchema
                (sym (bare clean).is) (like_itself hall_schema),
          );
          keyed = λ clean opens. all_bare_keyed end.now.trees (bare clean).empty;
        };
        follows = record {
          lasts = last_lifted (state g held) end
              (last_then (state g held) mid end (last_begun g held mid carries.lasts) lasts);
          opened = λ clean opens.
              (carries.kept (now clean) refl).was_open (ok clean).1.was_open;
        };
        serves = λ clean. (ok clean).1.is_open;
        stood = λ clean. inr (none, bare clean);
        stops = stops;
      }
