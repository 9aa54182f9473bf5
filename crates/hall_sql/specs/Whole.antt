-- What a call read is all that was asked for: no row was left out.
use Rattle.std.specs.Prelude.{◌≡◌, ℕ, List, [], ◌∷◌, map, Option, Some}
use Rattle.sqlite_trees.specs.declared.store.Store.{Ghosts}
use Rattle.sqlite.specs.declared.types.Value.TheVariants.{Text}
use Rattle.sqlite.specs.Held.{Held, state}
use Rattle.sqlite.specs.Order.{Row}
use Rattle.sqlite.specs.State.{State, Shown}
use Rattle.hall_sql.specs.Rows.{place_in, round_in, tester_in}
use Rattle.hall_sql.specs.declared.rounds.TheConstants.{HEAD, PLACES_OF}
use Rattle.hall_sql.specs.declared.testers.TheConstants.{TESTERS_OF}

-- over the tables as they were the query answers rows, and each of them is a record of this kind
pub record AreRecords {X : Type 0} (read : Row → Option X) (sql : List ℕ) (params : Row) (old new : State)
    : Type 0 where
  pub rows : List Row
  pub records : List X
  pub reads : map read rows ≡ map Some records
  pub shown : Shown sql params old new rows

-- so it is of a round: of its head, then of its places, and then of its testers
pub record IsRoundRead {S : Type 0} (g : Ghosts S) (id : List ℕ) (old new : State) : Type 0 where
  pub headed : Held S
  pub listed : Held S
  pub head : AreRecords round_in HEAD.now (Text id ∷ []) old (state g headed)
  pub places : AreRecords place_in PLACES_OF.now (Text id ∷ []) (state g headed) (state g listed)
  pub testers : AreRecords tester_in TESTERS_OF.now (Text id ∷ []) (state g listed) new
