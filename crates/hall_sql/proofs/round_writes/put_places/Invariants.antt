use Rattle.std.proofs.Common.{◌≡◌, take, IsTrue}
use Rattle.sqlite.specs.Held.{state}
use Rattle.sqlite.specs.State.{HasCleanDisk}
use Rattle.hall_sql.specs.Inside.{LeadsUncommitted, MakesInside}
use Rattle.hall_sql.specs.RoundPuts.{PutsPlaces}
use Rattle.hall_sql.proofs.round_writes.put_places.Given as goal

abbrev pub invariant-loop-entry : goal.invariant-loop-entry
invariant-loop-entry g l =
    let base = state g.S.Store l.fn.tx.conn.now in
    let now = state g.S.Store l.tx.conn.now in
    (l.tx.conn.ghost_name ≡ l.fn.tx.conn.ghost_name) × (l.number ≡ l.entry-index) × LeadsUncommitted base now
    × (HasCleanDisk now → IsTrue base.in_transaction → MakesInside (PutsPlaces l.id (take l.entry-index l.entries)) base
    now)
