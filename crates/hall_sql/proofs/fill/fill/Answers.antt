use Rattle.std.proofs.Common.{rules, ◌≡◌, IsTrue, arith, inl, sym, subst}
use Rattle.sqlite.specs.State.{HasCleanDisk}
use Rattle.hall_sql.specs.Standing.{AddsOutcomes}
use Rattle.sqlite.specs.Held.{state}
use Rattle.hall_sql.specs.Fill.{AreFilled, Fills}
use Rattle.hall_sql.specs.FillCause.{FillFails}
use Rattle.hall_store.proofs.Knowing.{fails_as}
use Rattle.hall_sql.proofs.WriteCauseLemmas.{commit_fails, whole_cause}
use Rattle.hall_sql.proofs.LastLemmas.{survived}
use Rattle.hall_sql.proofs.TransactionLemmas.{HasCommitted, commit_outcomes, committed, rolled_outcomes}
use Rattle.hall_sql.proofs.fill.fill.Goals as goal

pub returns-in-Ok-clause-filled : goal.returns-in-Ok-clause-filled
returns-in-Ok-clause-filled g c =
    let same : c.conn-2-1.given.0 ≡ c.commit.new.self.0 = search rules in
    let it = rw c.transaction-tx.ensures.begun at c.in_ok-fill_inside.ensures in
    let old = state g.S.Store c.args.conn.now in
    let end = state g.S.Store c.commit.new.self.0 in
    let fills = Fills c.args.rows.now in
    let left : HasCommitted fills old end =
    committed g.S.Store c.args.conn.now c.requires.hall fills (state g.S.Store c.fill_inside.new.tx.conn.now) end
    it.carries it.done (survived _ _ _ c.in-Ok.ensures.survives) c.in-Ok.ensures.ended c.in-Ok.ensures.ok in
    (subst (λ h. HasCommitted fills old (state g.S.Store h)) (sym same) left).done

pub returns-in-Ok-clause-stops : goal.returns-in-Ok-clause-stops
returns-in-Ok-clause-stops g c =
    let same : c.conn-2-1.given.0 ≡ c.commit.new.self.0 = search rules in
    let it = rw c.transaction-tx.ensures.begun at c.in_ok-fill_inside.ensures in
    let old = state g.S.Store c.args.conn.now in
    let Among = AreFilled c.args.rows.now old.now in
    subst (λ h. IsTrue old.is_open → AddsOutcomes Among old (state g.S.Store h)) (sym same)
    (commit_outcomes g.S.Store c.args.conn.now c.requires.hall c.live.ensures (Fills c.args.rows.now)
    (state g.S.Store c.fill_inside.new.tx.conn.now) (state g.S.Store c.commit.new.self.0)
    it.carries it.done c.in-Ok.ensures.survives)

pub returns-in-Err-clause-stops : goal.returns-in-Err-clause-stops
returns-in-Err-clause-stops g c =
    let same : c.conn-2-1.given.0 ≡ c.commit.new.self.0 = search rules in
    let it = rw c.transaction-tx.ensures.begun at c.in_ok-fill_inside.ensures in
    let old = state g.S.Store c.args.conn.now in
    let Among = AreFilled c.args.rows.now old.now in
    subst (λ h. IsTrue old.is_open → AddsOutcomes Among old (state g.S.Store h)) (sym same)
    (commit_outcomes g.S.Store c.args.conn.now c.requires.hall c.live.ensures (Fills c.args.rows.now)
    (state g.S.Store c.fill_inside.new.tx.conn.now) (state g.S.Store c.commit.new.self.0)
    it.carries it.done c.in-Err.ensures.survives)

pub returns-in_err-fill_inside-clause-stops : goal.returns-in_err-fill_inside-clause-stops
returns-in_err-fill_inside-clause-stops g c =
    let same : c.conn-1.given.0 ≡ c.drop-tx.new.self.0 = search rules in
    let it = rw c.transaction-tx.ensures.begun at c.in_err-fill_inside.ensures in
    let old = state g.S.Store c.args.conn.now in
    let Among = AreFilled c.args.rows.now old.now in
    subst (λ h. IsTrue old.is_open → AddsOutcomes Among old (state g.S.Store h)) (sym same)
    (λ opens. rolled_outcomes g.S.Store c.args.conn.now c.requires.hall Among
    (state g.S.Store c.fill_inside.new.tx.conn.now) (state g.S.Store c.drop-tx.new.self.0)
    it.carries c.drop-tx.ensures.survives)

pub returns-in-Err-clause-cause : goal.returns-in-Err-clause-cause
returns-in-Err-clause-cause g c clean failed =
    let same : c.conn-2-1.given.0 ≡ c.commit.new.self.0 = search rules in
    let it = rw c.transaction-tx.ensures.begun at c.in_ok-fill_inside.ensures in
    let mid = state g.S.Store c.fill_inside.new.tx.conn.now in
    let end = state g.S.Store c.commit.new.self.0 in
    let late : HasCleanDisk end = subst (λ h. HasCleanDisk (state g.S.Store h)) same clean in
    subst (λ h. FillFails c.args.rows.now (state g.S.Store c.args.conn.now) (state g.S.Store h)) (sym same)
    (inl (commit_fails g.S.Store c.args.conn.now c.requires.hall (Fills c.args.rows.now) mid end c.in-Err.error
    it.carries it.done
    (survived _ _ _ c.in-Err.ensures.survives) late (c.fault_of.ensures failed) (c.in-Err.ensures.err late)))

pub returns-in_err-fill_inside-clause-cause : goal.returns-in_err-fill_inside-clause-cause
returns-in_err-fill_inside-clause-cause g c clean =
    let same : c.conn-1.given.0 ≡ c.drop-tx.new.self.0 = search rules in
    let it = rw c.transaction-tx.ensures.begun at c.in_err-fill_inside.ensures in
    let mid = state g.S.Store c.fill_inside.new.tx.conn.now in
    let end = state g.S.Store c.drop-tx.new.self.0 in
    let late : HasCleanDisk end = subst (λ h. HasCleanDisk (state g.S.Store h)) same clean in
    let lasts = survived mid end _ c.drop-tx.ensures.survives in
    let now : HasCleanDisk mid = omega (arith, lasts.clean, late) in
    let was : HasCleanDisk (state g.S.Store c.args.conn.now) = omega (arith, it.carries.lasts.clean, now) in
    fails_as c.from_residual.result _ _ c.from_residual.ensures.1 (λ failed.
    subst (λ h. FillFails c.args.rows.now (state g.S.Store c.args.conn.now) (state g.S.Store h)) (sym same)
    (whole_cause g.S.Store c.args.conn.now c.requires.hall c.live.ensures mid end was lasts
    (λ goes. it.cause now goes failed)))
