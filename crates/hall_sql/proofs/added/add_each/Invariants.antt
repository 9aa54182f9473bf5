use Rattle.std.proofs.Common.{◌≡◌, take, IsTrue}
use Rattle.sqlite.specs.Held.{state}
use Rattle.sqlite.specs.State.{HasCleanDisk}
use Rattle.hall_policy.specs.Sink.{HasTaken}
use Rattle.hall_sql.specs.Inside.{LeadsUncommitted, MakesInside}
use Rattle.hall_sql.proofs.added.add_each.Given as goal

-- those up to here are added
abbrev pub invariant-loop-record : goal.invariant-loop-record
invariant-loop-record g l =
    let base = state g.S.Store l.fn.tx.conn.now in
    let now = state g.S.Store l.tx.conn.now in
    (l.tx.conn.ghost_name ≡ l.fn.tx.conn.ghost_name) × LeadsUncommitted base now
    × (HasCleanDisk now → IsTrue base.in_transaction → MakesInside
    (λ a b. HasTaken g.T.Added.adds a (take l.record-index l.records) b) base now)
