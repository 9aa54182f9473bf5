use Rattle.std.proofs.Common.{rules, arith, ◌≡◌, refl, sym, subst}
use Rattle.sqlite.specs.Held.{state}
use Rattle.sqlite.specs.State.{HasCleanDisk}
use Rattle.hall_sql.specs.Cause.{IsStoreCause}
use Rattle.hall_sql.specs.Standing.{MakesAtMost}
use Rattle.hall_sql.proofs.LastLemmas.{survived}
use Rattle.hall_sql.proofs.AdoptLemmas.{awaits_all, base, committed_adopted, grown_stops, rolled_stops}
use Rattle.hall_store.proofs.Knowing.{fails_as}
use Rattle.hall_sql.proofs.WriteCauseLemmas.{cause_later, cause_over, commit_cause}
use Rattle.hall_sql.proofs.make.make.Goals as goal

pub returns-in-Ok-clause-readies : goal.returns-in-Ok-clause-readies
returns-in-Ok-clause-readies g c =
    let it = rw c.transaction-tx.ensures.begun at c.in_ok-make_tables.ensures in
    let mid = state g.S.Store c.make_tables.new.tx.conn.now in
    let stops = grown_stops g.S.Store c.args.conn.now c.requires.settled mid _ c.requires.bare it.carries it.done
    c.in-Ok.ensures.survives in
    let done = committed_adopted g.S.Store c.args.conn.now c.requires.settled c.requires.alone mid _ c.requires.bare
    it.carries it.done (survived _ _ _ c.in-Ok.ensures.survives) stops c.in-Ok.ensures.ended c.in-Ok.ensures.ok in
    search rules

pub returns-in-Err-clause-cause : goal.returns-in-Err-clause-cause
returns-in-Err-clause-cause g c clean failed =
    let same : c.conn-2-1.given.0 ≡ c.commit.new.self.0 = search rules in
    let it = rw c.transaction-tx.ensures.begun at c.in_ok-make_tables.ensures in
    let begun = base g.S.Store c.args.conn.now c.requires.settled in
    let mid = state g.S.Store c.make_tables.new.tx.conn.now in
    let end = state g.S.Store c.commit.new.self.0 in
    let late : HasCleanDisk end = subst (λ h. HasCleanDisk (state g.S.Store h)) same clean in
    let lasts = survived mid end _ c.in-Err.ensures.survives in
    let now : HasCleanDisk mid = omega (arith, lasts.clean, late) in
    subst (λ h. IsStoreCause (state g.S.Store c.args.conn.now) (state g.S.Store h)) (sym same)
    (cause_over begun mid end it.carries.lasts now lasts
    (commit_cause mid end c.in-Err.error (it.done now refl).mode (c.fault_of.ensures failed)
    (c.in-Err.ensures.err late)))

pub returns-in_err-make_tables-clause-cause : goal.returns-in_err-make_tables-clause-cause
returns-in_err-make_tables-clause-cause g c clean =
    let same : c.conn-1.given.0 ≡ c.drop-tx.new.self.0 = search rules in
    let it = rw c.transaction-tx.ensures.begun at c.in_err-make_tables.ensures in
    let begun = base g.S.Store c.args.conn.now c.requires.settled in
    let mid = state g.S.Store c.make_tables.new.tx.conn.now in
    let end = state g.S.Store c.drop-tx.new.self.0 in
    let late : HasCleanDisk end = subst (λ h. HasCleanDisk (state g.S.Store h)) same clean in
    let lasts = survived mid end _ c.drop-tx.ensures.survives in
    let now : HasCleanDisk mid = omega (arith, lasts.clean, late) in
    fails_as c.from_residual.result _ _ c.from_residual.ensures.1 (λ failed.
    subst (λ h. IsStoreCause (state g.S.Store c.args.conn.now) (state g.S.Store h)) (sym same)
    (cause_later begun mid end lasts (it.cause now refl (awaits_all begun.now c.requires.bare) failed)))

pub returns-in-Ok-clause-stops : goal.returns-in-Ok-clause-stops
returns-in-Ok-clause-stops g c =
    let same : c.conn-2-1.given.0 ≡ c.commit.new.self.0 = search rules in
    let it = rw c.transaction-tx.ensures.begun at c.in_ok-make_tables.ensures in
    subst (λ h. MakesAtMost (state g.S.Store c.args.conn.now) (state g.S.Store h)) (sym same)
    (grown_stops g.S.Store c.args.conn.now c.requires.settled (state g.S.Store c.make_tables.new.tx.conn.now)
    (state g.S.Store c.commit.new.self.0) c.requires.bare
    it.carries it.done c.in-Ok.ensures.survives)

pub returns-in-Err-clause-stops : goal.returns-in-Err-clause-stops
returns-in-Err-clause-stops g c =
    let same : c.conn-2-1.given.0 ≡ c.commit.new.self.0 = search rules in
    let it = rw c.transaction-tx.ensures.begun at c.in_ok-make_tables.ensures in
    subst (λ h. MakesAtMost (state g.S.Store c.args.conn.now) (state g.S.Store h)) (sym same)
    (grown_stops g.S.Store c.args.conn.now c.requires.settled (state g.S.Store c.make_tables.new.tx.conn.now)
    (state g.S.Store c.commit.new.self.0) c.requires.bare
    it.carries it.done c.in-Err.ensures.survives)

pub returns-in_err-make_tables-clause-stops : goal.returns-in_err-make_tables-clause-stops
returns-in_err-make_tables-clause-stops g c =
    let same : c.conn-1.given.0 ≡ c.drop-tx.new.self.0 = search rules in
    let it = rw c.transaction-tx.ensures.begun at c.in_err-make_tables.ensures in
    subst (λ h. MakesAtMost (state g.S.Store c.args.conn.now) (state g.S.Store h)) (sym same)
    (rolled_stops g.S.Store c.args.conn.now c.requires.settled (state g.S.Store c.make_tables.new.tx.conn.now)
    (state g.S.Store c.drop-tx.new.self.0)
    it.carries c.drop-tx.ensures.survives)
