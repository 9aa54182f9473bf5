-- What a read of the tables tells.
use Rattle.std.specs.Prelude.{ℕ, List, [], Option, Result, IfOk}
use Rattle.sqlite.specs.Order.{Row}
use Rattle.sqlite.specs.State.{State, HasCleanDisk}
use Rattle.hall_policy.specs.World.{World}
use Rattle.hall_store.specs.Store.{CanFailIn, Kept, Served, Fails}
use Rattle.hall_store.specs.declared.fault.StoreFault.{StoreFault}
use Rattle.hall_sql.specs.AllRead.{AreAllRead}
use Rattle.hall_sql.specs.Cause.{ReadFails}
use Rattle.hall_sql.specs.Content.{content_of}
use Rattle.hall_sql.specs.FillCause.{TablesFail}
use Rattle.hall_sql.specs.Standing.{KeptAnyTables, KeptTables}
use Rattle.hall_sql.specs.Tables.{old_schema}
use Rattle.hall_sql.specs.Whole.{AreRecords}
use Rattle.hall_sql.specs.WholeRows.{AreRowsOf}
use Rattle.hall_sql.specs.declared.whole.Whole.{Whole}

-- A read leaves the world and the tables. Its answer has its meaning in the world, and all that was asked for was read.
-- Where it answers that it failed, the state that it leaves gives this reason, and there is this cause.
pub record Reads {R : Type 0} (old new : State) (result : Result R StoreFault) (Means : World → R → Type 0)
    (Whole Reason Why : Type 0) : Type 0 where
  pub kept : Kept (content_of old) (content_of new)
  pub rested : KeptTables old new
  pub served : Served (content_of new) result Means
  pub fault : Fails Reason result
  pub whole : HasCleanDisk new → IfOk result (λ _. Whole)
  pub cause : HasCleanDisk new → Fails Why result

-- a read of all rows that a query answers, or of the one, if any, where it answers no more
abbrev pub ReadsRows : {X R : Type 0} → (Row → Option X) → List ℕ → Row → State → State → Result R StoreFault →
    (World → R → Type 0) → Type 0
ReadsRows read sql params old new result Means =
    Reads old new result Means (AreRecords read sql params old new) (CanFailIn (content_of old) (content_of new))
    (ReadFails read sql params old new)

-- A read of a whole table, over the tables of either version.
pub record ReadsTable {X R : Type 0} (read : Row → Option X) (sql : List ℕ) (old new : State)
    (result : Result R StoreFault) (Means : World → R → Type 0) : Type 0 where
  pub rested : KeptAnyTables old new
  pub served : Served (content_of new) result Means
  pub whole : HasCleanDisk new → IfOk result (λ _. AreRecords read sql [] old new)
  pub cause : HasCleanDisk new → Fails (ReadFails read sql [] old new) result

-- A read of the six tables that either version has.
pub record ReadsWhole (old new : State) (result : Result Whole StoreFault) : Type 0 where
  pub rested : KeptAnyTables old new
  pub served : Served (content_of new) result AreRowsOf
  pub whole : HasCleanDisk new → IfOk result (λ _. AreAllRead old_schema old.now.trees)
  pub cause : HasCleanDisk new → Fails (TablesFail old_schema old new) result
