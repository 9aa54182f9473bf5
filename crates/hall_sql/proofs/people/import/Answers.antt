use Rattle.std.proofs.Common.{rules, arith, ◌≡◌, inl, Ok, Err, sym, subst}
use Rattle.sqlite.specs.State.{HasCleanDisk}
use Rattle.hall_sql.specs.Inside.{Changes}
use Rattle.hall_sql.specs.WriteCause.{ImportFails}
use Rattle.hall_store.proofs.Knowing.{fails_as}
use Rattle.hall_sql.proofs.WriteCauseLemmas.{commit_fails, whole_cause}
use Rattle.sqlite.specs.Held.{state}
use Rattle.hall_store.specs.declared.change.Change.TheVariants.{Import}
use Rattle.hall_store.specs.declared.fault.StoreFault.{StoreFault}
use Rattle.hall_sql.specs.Content.{MakesInTables}
use Rattle.hall_sql.proofs.LastLemmas.{survived}
use Rattle.hall_sql.proofs.TransactionLemmas.{committed_wrote, refused_wrote}
use Rattle.hall_sql.proofs.people.import.Goals as goal

pub returns-in-Ok-clause-wrote : goal.returns-in-Ok-clause-wrote
returns-in-Ok-clause-wrote g c =
    let same : c.conn-2-1.given.0 ≡ c.commit.new.self.0 = search rules in
    let it = rw (c.transaction-tx.ensures.begun, c.as_slice.ensures.value) at c.in_ok-import_all.ensures in
    let end = state g.S.Store c.commit.new.self.0 in
    subst (λ h. MakesInTables {R = Unit} {E = StoreFault} (Import c.args.people.now) (state g.S.Store c.args.conn.now)
    (state g.S.Store h) (Ok tt)) (sym same)
    (committed_wrote g.S.Store c.args.conn.now c.requires.hall c.live.ensures (Import c.args.people.now) tt
    (state g.S.Store c.import_all.new.tx.conn.now) end
    it.carries it.done c.in-Ok.ensures.survives c.in-Ok.ensures.ended c.in-Ok.ensures.ok)

pub returns-in-Err-clause-wrote : goal.returns-in-Err-clause-wrote
returns-in-Err-clause-wrote g c =
    let same : c.conn-2-1.given.0 ≡ c.commit.new.self.0 = search rules in
    let it = rw (c.transaction-tx.ensures.begun, c.as_slice.ensures.value) at c.in_ok-import_all.ensures in
    let end = state g.S.Store c.commit.new.self.0 in
    subst (λ h. MakesInTables {R = Unit} {E = StoreFault} (Import c.args.people.now) (state g.S.Store c.args.conn.now)
    (state g.S.Store h) (Err c.fault_of.result)) (sym same)
    (refused_wrote g.S.Store c.args.conn.now c.requires.hall c.live.ensures (Import c.args.people.now) c.fault_of.result
    c.in-Err.error (state g.S.Store c.import_all.new.tx.conn.now) end
    it.carries it.done c.in-Err.ensures.survives c.in-Err.ensures.ended c.in-Err.ensures.err)

pub returns-in-Err-clause-cause : goal.returns-in-Err-clause-cause
returns-in-Err-clause-cause g c clean failed =
    let same : c.conn-2-1.given.0 ≡ c.commit.new.self.0 = search rules in
    let it = rw (c.transaction-tx.ensures.begun, c.as_slice.ensures.value) at c.in_ok-import_all.ensures in
    let mid = state g.S.Store c.import_all.new.tx.conn.now in
    let end = state g.S.Store c.commit.new.self.0 in
    let late : HasCleanDisk end = subst (λ h. HasCleanDisk (state g.S.Store h)) same clean in
    subst (λ h. ImportFails g.S.Store c.args.people.now (state g.S.Store c.args.conn.now) (state g.S.Store h))
    (sym same)
    (inl (commit_fails g.S.Store c.args.conn.now c.requires.hall (Changes (Import c.args.people.now)) mid end
    c.in-Err.error it.carries it.done
    (survived _ _ _ c.in-Err.ensures.survives) late (c.fault_of.ensures failed) (c.in-Err.ensures.err late)))

pub returns-in_err-import_all-clause-cause : goal.returns-in_err-import_all-clause-cause
returns-in_err-import_all-clause-cause g c clean =
    let same : c.conn-1.given.0 ≡ c.drop-tx.new.self.0 = search rules in
    let it = rw (c.transaction-tx.ensures.begun, c.as_slice.ensures.value) at c.in_err-import_all.ensures in
    let mid = state g.S.Store c.import_all.new.tx.conn.now in
    let end = state g.S.Store c.drop-tx.new.self.0 in
    let late : HasCleanDisk end = subst (λ h. HasCleanDisk (state g.S.Store h)) same clean in
    let lasts = survived mid end _ c.drop-tx.ensures.survives in
    let now : HasCleanDisk mid = omega (arith, lasts.clean, late) in
    let was : HasCleanDisk (state g.S.Store c.args.conn.now) = omega (arith, it.carries.lasts.clean, now) in
    fails_as c.from_residual.result _ _ c.from_residual.ensures.1 (λ failed.
    subst (λ h. ImportFails g.S.Store c.args.people.now (state g.S.Store c.args.conn.now) (state g.S.Store h))
    (sym same)
    (whole_cause g.S.Store c.args.conn.now c.requires.hall c.live.ensures mid end was lasts
    (λ goes. it.cause now goes failed)))
