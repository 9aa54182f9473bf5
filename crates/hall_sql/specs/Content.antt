-- The content that a connection shows, and what a call that writes makes of it.
use Rattle.std.specs.Prelude.{◌&&◌, ℕ, not, if◌then◌else◌, nat_eq, IsTrue, Result, OnOk, OnErr}
use Rattle.sqlite_trees.specs.View.{doubt}
use Rattle.sqlite.specs.State.{State, HasCleanDisk}
use Rattle.sqlite.specs.Tree.{Trees}
use Rattle.hall_store.specs.Store.{Content, Makes}
use Rattle.hall_store.specs.declared.change.Change.{Change}
use Rattle.hall_sql.specs.AllRead.{are_all_read}
use Rattle.hall_sql.specs.CanFail.{CanFail, CanRefuse}
use Rattle.hall_sql.specs.Rows.{world_of}
use Rattle.hall_sql.specs.Spared.{may_write, KeptOtherRows}
use Rattle.hall_sql.specs.Standing.{IsHall, KeptRows}
use Rattle.hall_sql.specs.Stands.{OpensTo, StandsFor}
use Rattle.hall_sql.specs.Tables.{hall_schema}

-- 1 where the connection is open over a clean disk, and a row of its tables is no record, and else 0
abbrev pub unread_mark : State → ℕ
unread_mark s =
    if nat_eq (doubt s.is_clean) 0 && (s.is_open && not (are_all_read hall_schema s.now.trees)) then 1 else 0

-- The content of a connection: it is honest while its disk is clean, serves while it is open, counts the disk's faults,
-- and its world is what its tables hold. The number that writes alone may raise tells of rows that are no record, so
-- that no read makes one. A stop leaves the worlds to which the next open may open what it finds.
abbrev pub content_of : State → Content
content_of s = record {
  honest = HasCleanDisk s;
  serves = IsTrue s.is_open;
  faults = s.faults;
  writes = unread_mark s;
  world = world_of s.now.trees;
  may_leave = λ left. (db : Trees) × s.may_leave db × OpensTo StandsFor db left;
  can_fail = CanFail s;
  can_refuse = λ change. CanRefuse change s;
}

-- A call that writes: the hall stands, and it made the change and left each row that the change may not write, or it
-- was refused and left the tables.
pub record MakesInTables {R E : Type 0} (change : Change) (old new : State) (result : Result R E) : Type 0 where
  pub hall : IsHall new
  pub makes : Makes change (content_of old) (content_of new) result
  pub others : HasCleanDisk new → OnOk result (KeptOtherRows (may_write change) old.now.trees new.now.trees)
  pub refused : OnErr result (KeptRows old new)
