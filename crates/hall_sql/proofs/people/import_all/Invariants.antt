use Rattle.std.proofs.Common.{◌≡◌, IsTrue}
use Rattle.sqlite.specs.Held.{state}
use Rattle.sqlite.specs.State.{HasCleanDisk}
use Rattle.hall_sql.specs.Inside.{LeadsUncommitted, MakesInside}
use Rattle.hall_sql.proofs.EachLemmas.{HasImported}
use Rattle.hall_sql.proofs.people.import_all.Given as goal

-- the list up to here is imported
abbrev pub invariant-loop-person : goal.invariant-loop-person
invariant-loop-person g l =
    let base = state g.S.Store l.fn.tx.conn.now in
    let now = state g.S.Store l.tx.conn.now in
    (l.tx.conn.ghost_name ≡ l.fn.tx.conn.ghost_name) × LeadsUncommitted base now
    × (HasCleanDisk now → IsTrue base.in_transaction → MakesInside (HasImported l.people l.person-index) base now)
