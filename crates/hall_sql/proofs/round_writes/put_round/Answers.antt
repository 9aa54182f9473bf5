use Rattle.std.proofs.Common.{rules, arith, ◌≡◌, Ok, Err, sym, subst}
use Rattle.sqlite.specs.Held.{state}
use Rattle.sqlite.specs.State.{HasCleanDisk}
use Rattle.hall_store.specs.declared.change.Change.TheVariants.{PutRound}
use Rattle.hall_store.specs.declared.fault.StoreFault.{StoreFault}
use Rattle.hall_sql.specs.RoundPuts.{PutsRows}
use Rattle.hall_sql.specs.Content.{MakesInTables}
use Rattle.hall_sql.specs.WriteCause.{PutRoundFails}
use Rattle.hall_store.proofs.Knowing.{fails_as}
use Rattle.hall_sql.proofs.WriteCauseLemmas.{whole_cause}
use Rattle.hall_sql.proofs.LastLemmas.{survived}
use Rattle.hall_sql.proofs.TransactionLemmas.{committed_did, committed_wrote, refused_wrote}
use Rattle.hall_sql.proofs.round_writes.put_round.Goals as goal

pub returns-in-Ok-clause-wrote : goal.returns-in-Ok-clause-wrote
returns-in-Ok-clause-wrote g c =
    let same : c.conn-2-1.given.0 ≡ c.commit.new.self.0 = search rules in
    let it = rw c.transaction-tx.ensures.begun at c.in_ok-put_inside.ensures in
    let end = state g.S.Store c.commit.new.self.0 in
    subst (λ h. MakesInTables {R = Unit} {E = StoreFault} (PutRound c.args.row.now) (state g.S.Store c.args.conn.now)
    (state g.S.Store h) (Ok tt)) (sym same)
    (committed_wrote g.S.Store c.args.conn.now c.requires.hall c.live.ensures (PutRound c.args.row.now) tt
    (state g.S.Store c.put_inside.new.tx.conn.now) end
    it.carries it.done c.in-Ok.ensures.survives c.in-Ok.ensures.ended c.in-Ok.ensures.ok)

pub returns-in-Ok-clause-rows : goal.returns-in-Ok-clause-rows
returns-in-Ok-clause-rows g c =
    let it = rw c.transaction-tx.ensures.begun at c.in_ok-put_inside.ensures in
    let row = c.args.row.now in
    let end = state g.S.Store c.commit.new.self.0 in
    let done : HasCleanDisk end → PutsRows row (state g.S.Store c.args.conn.now).now end.now =
    committed_did g.S.Store c.args.conn.now c.requires.hall (PutsRows row)
    (state g.S.Store c.put_inside.new.tx.conn.now) end
    it.carries it.rows (survived _ _ _ c.in-Ok.ensures.survives) c.in-Ok.ensures.ok in
    search rules

pub returns-in-Err-clause-wrote : goal.returns-in-Err-clause-wrote
returns-in-Err-clause-wrote g c =
    let same : c.conn-2-1.given.0 ≡ c.commit.new.self.0 = search rules in
    let it = rw c.transaction-tx.ensures.begun at c.in_ok-put_inside.ensures in
    let end = state g.S.Store c.commit.new.self.0 in
    subst (λ h. MakesInTables {R = Unit} {E = StoreFault} (PutRound c.args.row.now) (state g.S.Store c.args.conn.now)
    (state g.S.Store h) (Err c.fault_of.result)) (sym same)
    (refused_wrote g.S.Store c.args.conn.now c.requires.hall c.live.ensures (PutRound c.args.row.now) c.fault_of.result
    c.in-Err.error (state g.S.Store c.put_inside.new.tx.conn.now) end
    it.carries it.done c.in-Err.ensures.survives c.in-Err.ensures.ended c.in-Err.ensures.err)

pub returns-in_err-put_inside-clause-cause : goal.returns-in_err-put_inside-clause-cause
returns-in_err-put_inside-clause-cause g c clean =
    let same : c.conn-1.given.0 ≡ c.drop-tx.new.self.0 = search rules in
    let it = rw c.transaction-tx.ensures.begun at c.in_err-put_inside.ensures in
    let mid = state g.S.Store c.put_inside.new.tx.conn.now in
    let end = state g.S.Store c.drop-tx.new.self.0 in
    let late : HasCleanDisk end = subst (λ h. HasCleanDisk (state g.S.Store h)) same clean in
    let lasts = survived mid end _ c.drop-tx.ensures.survives in
    let now : HasCleanDisk mid = omega (arith, lasts.clean, late) in
    let was : HasCleanDisk (state g.S.Store c.args.conn.now) = omega (arith, it.carries.lasts.clean, now) in
    fails_as c.from_residual.result _ _ c.from_residual.ensures.1 (λ failed.
    subst (λ h. PutRoundFails c.args.row.now (state g.S.Store c.args.conn.now) (state g.S.Store h)) (sym same)
    (whole_cause g.S.Store c.args.conn.now c.requires.hall c.live.ensures mid end was lasts
    (λ goes. it.cause now goes failed)))
