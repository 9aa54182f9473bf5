use Rattle.std.proofs.Common.{◌≡◌, take, IsTrue}
use Rattle.sqlite.specs.Held.{state}
use Rattle.sqlite.specs.State.{HasCleanDisk}
use Rattle.hall_sql.specs.Inside.{LeadsUncommitted, MakesInside}
use Rattle.hall_sql.specs.RoundPuts.{PutsTesters}
use Rattle.hall_sql.proofs.testers.put_testers.Given as goal

abbrev pub invariant-loop-name : goal.invariant-loop-name
invariant-loop-name g l =
    let base = state g.S.Store l.fn.tx.conn.now in
    let now = state g.S.Store l.tx.conn.now in
    (l.tx.conn.ghost_name ≡ l.fn.tx.conn.ghost_name) × LeadsUncommitted base now
    × (HasCleanDisk now → IsTrue base.in_transaction → MakesInside (PutsTesters l.round (take l.name-index l.names))
    base now)
