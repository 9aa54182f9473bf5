-- Reads one after another, over tables of a version that rest.
use Rattle.std.proofs.Common.{◌≡◌, ◌++◌, ◌∷◌, [], inl, inr, IsTrue, List, Result, Ok, Err, sym, subst, refl, ◌∙◌, arith}
use Rattle.std.specs.FinMap.{entries, values}
use Rattle.std.specs.List.{AllByRecursion}
use Rattle.std.specs.Prelude.{IsErrAnd}
use Rattle.sqlite.specs.Effect.{Database}
use Rattle.sqlite.specs.State.{State, HasCleanDisk}
use Rattle.sqlite_trees.proofs.ListLemmas.{all-append}
use Rattle.hall_policy.specs.World.{World}
use Rattle.hall_store.specs.declared.fault.StoreFault.{StoreFault}
use Rattle.hall_sql.specs.AllRead.{AreAllRead, IsRead}
use Rattle.hall_sql.specs.Reads.{ReadsTable, ReadsWhole}
use Rattle.hall_sql.specs.Rows.{world_of}
use Rattle.hall_sql.specs.Scan.{tree_of}
use Rattle.hall_sql.specs.Standing.{IsOver, KeptAnyTables}
use Rattle.hall_sql.specs.Tables.{old_schema}
use Rattle.hall_sql.specs.Versions.{HasTable, IsAnyHall}
use Rattle.hall_sql.specs.WholeRows.{AreRowsOf}
use Rattle.hall_sql.specs.declared.tables.HallTable.{HallTable}
use Rattle.hall_sql.specs.declared.tables.HallTable.TheVariants.{People, Puzzles, Rounds, Places, Answers, Protests}
use Rattle.hall_sql.specs.declared.whole.Whole.{Whole}
use Rattle.hall_sql.proofs.AllRead.{all_text, read_all, read_fails}
use Rattle.hall_sql.proofs.Queries.{record_in}
use Rattle.hall_sql.proofs.StoreLemmas.{rests_on}
use Rattle.hall_sql.proofs.TransactionLemmas.{rests_itself}
use Rattle.hall_sql.proofs.WholeRows.{rows_of}
use Rattle.hall_sql.proofs.WriteCauseLemmas.{cause_over}

-- tables that rest are still of the version
pub rests_any : (old new : State) → IsAnyHall old → KeptAnyTables old new → IsAnyHall new
rests_any old new hall rested = record {
  schema = hall.schema;
  tabled = (rested hall.schema hall.tabled).tabled;
  fits =
      hall.fits;
}

-- they rest twice
pub rests_twice : (old mid new : State) → KeptAnyTables old mid → KeptAnyTables mid new → KeptAnyTables old new
rests_twice old mid new first second schema tabled =
    let one = first schema tabled in rests_on old mid new one (second schema one.tabled)

-- a disk that is clean was so before
pub rested_clean : (old new : State) → IsAnyHall old → KeptAnyTables old new → HasCleanDisk new → HasCleanDisk old
rested_clean old new hall rested clean =
    let lasts = (rested hall.schema hall.tabled).follows.lasts in
    omega (arith, lasts.clean, clean)

-- ---- tables that are read whole

-- These were read one after another, each of their rows is a record, and this is told of them; and all tables rest.
pub record HaveRead (tables : List HallTable) (Told : World → Type 0) (old new : State) : Type 0 where
  pub had : IsAnyHall old
  pub rested : KeptAnyTables old new
  pub same : HasCleanDisk new → new.now ≡ old.now
  pub read : HasCleanDisk new → AllByRecursion (λ table. IsRead old.now.trees (tree_of table)) tables
  pub told : HasCleanDisk new → Told (world_of old.now.trees)

pub read_none : (s : State) → IsAnyHall s → HaveRead [] (λ world. Unit {0}) s s
read_none s hall = record {
  had = hall;
  rested = λ schema tabled. rests_itself s tabled;
  same = λ clean. refl;
  read = λ clean. tt;
  told = λ clean. tt;
}

module _ {tables : List HallTable} {Told : World → Type 0} {old mid : State} (before : HaveRead tables Told old mid)
  where
    -- they are still of the version
    pub hall_now : IsAnyHall mid
    hall_now = rests_any old mid before.had before.rested

    module _ {R : Type 0} {Means : World → R → Type 0} (table : HallTable)
        (over : IsAnyHall mid → IsOver (λ schema. HasTable schema table) mid) {new : State} where
      -- and one more
      pub read_next : {x : R} → ReadsTable (record_in table) (all_text table) mid new (Ok x) Means
          → HaveRead (tables ++ table ∷ []) (λ world. Told world × Means world x) old new
      read_next {x} it =
          let was : HasCleanDisk new → HasCleanDisk mid = rested_clean mid new hall_now it.rested in
          let same : HasCleanDisk new → new.now ≡ mid.now = λ clean.
          (it.rested hall_now.schema hall_now.tabled).same clean (it.served clean).0 in
          record {
            had = before.had;
            rested = rests_twice old mid new before.rested it.rested;
            same = λ clean. same clean ∙ before.same (was clean);
            read = λ clean. all-append (λ t. IsRead old.now.trees (tree_of t)) tables (table ∷ []) (before.read (was clean)) (
              subst (λ (d : Database). IsRead d.trees (tree_of table)) (before.same (was clean))
                  (read_all table mid new (was clean) (over hall_now) (it.whole clean)),
              tt,
            );
            told = λ clean. (
              before.told (was clean),
              subst (λ (d : Database). Means (world_of d.trees) x) (same clean ∙ before.same (was clean))
                  (it.served clean).1,
            );
          }

      -- or one that fails
      pub fails_next : (result : Result Whole StoreFault) {fault : StoreFault}
          → ReadsTable (record_in table) (all_text table) mid new (Err fault) Means → IsErrAnd result (λ e. e ≡ fault)
          → (AreAllRead old_schema old.now.trees → IsRead old.now.trees (tree_of table)) → ReadsWhole old new result
      fails_next (Ok rows) it is part = absurd is
      fails_next (Err e) it is part =
          let was : HasCleanDisk new → HasCleanDisk mid = rested_clean mid new hall_now it.rested in
          record {
            rested = rests_twice old mid new before.rested it.rested;
            served = tt;
            whole = λ clean. tt;
            cause = λ clean failed. elim (read_fails table mid new (was clean) (over hall_now)
                (it.cause clean (sym is ∙ failed))) [
                  | inl cause ↦ inl (cause_over old mid new (before.rested before.had.schema before.had.tabled).follows.lasts
                      (was clean) (it.rested hall_now.schema hall_now.tabled).follows.lasts cause)
                  | inr unread ↦ inr (λ all. unread (subst (λ (d : Database). IsRead d.trees (tree_of table))
                      (sym (before.same (was clean))) (part all)))
                ];
          }

-- where all six were read, they are the world's rows
pub six_read : {old new : State} (rows : Whole)
    → HaveRead (People ∷ Puzzles ∷ Rounds ∷ Places ∷ Answers ∷ Protests ∷ []) (λ world.
    (((((Unit {0} × (rows.people.items ≡ values world.people)) × (rows.puzzles.items ≡ values world.puzzles))
    × (rows.heads.items ≡ values world.rounds)) × (rows.places.items ≡ entries world.places))
    × (rows.answers.items ≡ values world.answers)) × (rows.protests.items ≡ values world.protests)) old new
    → (HasCleanDisk new → IsTrue new.is_open) → ReadsWhole old new (Ok rows)
six_read {old} {new} rows it opened = record {
  rested = it.rested;
  served = λ clean.
      let told = it.told clean in (
        opened clean,
        subst (λ (d : Database). AreRowsOf (world_of d.trees) rows) (sym (it.same clean))
            (rows_of old.now.trees rows told.0.0.0.0.0.1 told.0.0.0.0.1 told.0.0.0.1 told.0.0.1 told.0.1 told.1),
      );
  whole = it.read;
  cause = λ clean. tt;
}
