-- A scan of the rowids of a table, one row at a time.
use Rattle.std.specs.Prelude.{◌≡◌, ◌⊎◌, ℕ, ℤ, IsTrue, List, [], ◌∷◌, map, Option, Some, None, IfSome}
use Rattle.std.specs.List.{AllByRecursion}
use Rattle.std.specs.Ordering.{int_cmp}
use Rattle.std.specs.declared.cmp.Ordering.TheVariants.{Less}
use Rattle.sqlite_rules.specs.Lists.{Has}
use Rattle.sqlite_trees.specs.declared.store.Store.{Ghosts}
use Rattle.sqlite_value.specs.Order.{column}
use Rattle.sqlite.specs.declared.types.Value.TheVariants.{Int}
use Rattle.sqlite.specs.Order.{Row}
use Rattle.sqlite.specs.Held.{Held, state}
use Rattle.sqlite.specs.Given.{Advances, HasGiven}
use Rattle.sqlite.specs.State.{State, IsUnchanged, KeepsCounts}
use Rattle.hall_sql.specs.declared.tables.HallTable.{HallTable}
use Rattle.hall_sql.specs.Standing.{AreKeyed}
use Rattle.hall_sql.specs.Tables.{form_of}

-- the tree of the table
abbrev pub tree_of : HallTable → ℕ
tree_of table = (form_of table).1

-- each number is below those after it
abbrev pub Rises : List ℤ → Type 0
Rises [] = Unit {0}
Rises (id ∷ ids) = AllByRecursion (λ later. int_cmp id later ≡ Less) ids × Rises ids

-- the number is above the last, where there is one
abbrev pub IsAbove : Option ℤ → ℤ → Type 0
IsAbove None id = Unit {0}
IsAbove (Some last) id = int_cmp last id ≡ Less

-- one rowid more, above the last, or the end
abbrev pub Scanned : {S : Type 0} → Ghosts S → Held S → Held S → Option ℤ → Option ℤ → Type 0
Scanned g old new last (Some id) =
    IsUnchanged (state g old) (state g new)
    × (shown : Row) × Advances g old new (Some shown) × (column shown 0 ≡ Int id) × IsAbove last id
Scanned g old new last None = IsUnchanged (state g old) (state g new) × Advances g old new None

-- none of the numbers is above the last
abbrev pub IsLastOf : List ℤ → Option ℤ → Type 0
IsLastOf ids None = ids ≡ []
IsLastOf ids (Some last) = AllByRecursion (λ id. (id ≡ last) ⊎ (int_cmp id last ≡ Less)) ids

-- the rowids that the query has given so far rise
pub record HasScanned {S : Type 0} (g : Ghosts S) (sql : List ℕ) (held : Held S) (last : Option ℤ) : Type 0 where
  pub given : List Row
  pub ids : List ℤ
  pub has : HasGiven g sql [] held given
  pub read : map (λ shown. column shown 0) given ≡ map Int ids
  pub rises : Rises ids
  pub top : IsLastOf ids last
  pub met : IfSome last (Has ids)

-- all that a connection shows is as it was
pub record IsLeft (old new : State) : Type 0 where
  pub is_open : new.is_open ≡ old.is_open
  pub now_is : new.now ≡ old.now
  pub committed_is : new.committed ≡ old.committed
  pub mode : new.in_transaction ≡ old.in_transaction
  pub counts : KeepsCounts old new
  pub marks : new.marks ≡ old.marks

-- a store that was asked serves
abbrev pub Serves : List HallTable → State → Type 0
Serves [] s = Unit {0}
Serves (table ∷ tables) s = IsTrue s.is_open

-- the rowids of the table are integers, of which none stands twice
abbrev pub IsTableKeyed : State → HallTable → Type 0
IsTableKeyed s table = AreKeyed (s.now.trees (tree_of table))

-- nothing changed, and these tables are so
pub record AreScanned (tables : List HallTable) (old new : State) : Type 0 where
  pub left : IsLeft old new
  pub serves : Serves tables new
  pub keyed : AllByRecursion (IsTableKeyed old) tables
