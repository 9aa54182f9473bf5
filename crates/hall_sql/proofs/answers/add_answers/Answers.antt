use Rattle.std.proofs.Common.{rules, ◌≡◌, Ok, Err, arith, inl, sym, subst}
use Rattle.sqlite.specs.Held.{state}
use Rattle.sqlite.specs.State.{HasCleanDisk}
use Rattle.hall_policy.specs.Sink.{HasTaken}
use Rattle.hall_store.specs.declared.change.Change.TheVariants.{AddAnswers}
use Rattle.hall_store.specs.declared.fault.StoreFault.{StoreFault}
use Rattle.hall_sql.specs.Content.{MakesInTables}
use Rattle.hall_sql.specs.Fill.{AddsAnswer}
use Rattle.hall_sql.specs.FillCause.{AddAnswersFails}
use Rattle.hall_store.proofs.Knowing.{fails_as}
use Rattle.hall_sql.proofs.JointLemmas.{joint_changes}
use Rattle.hall_sql.proofs.LastLemmas.{survived}
use Rattle.hall_sql.proofs.TransactionLemmas.{did_committed, did_refused}
use Rattle.hall_sql.proofs.WriteCauseLemmas.{commit_fails, whole_cause}
use Rattle.hall_sql.proofs.answers.add_answers.Goals as goal

pub returns-in-Ok-clause-wrote : goal.returns-in-Ok-clause-wrote
returns-in-Ok-clause-wrote g c =
    let same : c.conn-2-1.given.0 ≡ c.commit.new.self.0 = search rules in
    let it = rw (c.transaction-tx.ensures.begun, c.as_slice-answers.ensures) at c.in_ok-add_each.ensures in
    let rows = c.args.rows.now in
    let old = state g.S.Store c.args.conn.now in
    let end = state g.S.Store c.commit.new.self.0 in
    subst (λ h. MakesInTables {R = Unit} {E = StoreFault} (AddAnswers rows) old (state g.S.Store h) (Ok tt)) (sym same)
    (did_committed g.S.Store c.args.conn.now c.requires.hall (AddAnswers rows) (λ a b. HasTaken AddsAnswer a rows b)
    (λ was opens. joint_changes old.now rows (c.requires.can was opens)) c.live.ensures tt
    (state g.S.Store c.add_each.new.tx.conn.now) end
    it.carries it.done c.in-Ok.ensures.survives c.in-Ok.ensures.ended c.in-Ok.ensures.ok)

pub returns-in-Err-clause-wrote : goal.returns-in-Err-clause-wrote
returns-in-Err-clause-wrote g c =
    let same : c.conn-2-1.given.0 ≡ c.commit.new.self.0 = search rules in
    let it = rw (c.transaction-tx.ensures.begun, c.as_slice-answers.ensures) at c.in_ok-add_each.ensures in
    let rows = c.args.rows.now in
    let old = state g.S.Store c.args.conn.now in
    let end = state g.S.Store c.commit.new.self.0 in
    subst (λ h. MakesInTables {R = Unit} {E = StoreFault} (AddAnswers rows) old (state g.S.Store h)
    (Err c.fault_of.result)) (sym same)
    (did_refused g.S.Store c.args.conn.now c.requires.hall (AddAnswers rows) (λ a b. HasTaken AddsAnswer a rows b)
    (λ was opens. joint_changes old.now rows (c.requires.can was opens)) c.live.ensures c.fault_of.result
    c.in-Err.error (state g.S.Store c.add_each.new.tx.conn.now) end
    it.carries it.done c.in-Err.ensures.survives c.in-Err.ensures.ended c.in-Err.ensures.err)

pub returns-in-Err-clause-cause : goal.returns-in-Err-clause-cause
returns-in-Err-clause-cause g c clean failed =
    let same : c.conn-2-1.given.0 ≡ c.commit.new.self.0 = search rules in
    let it = rw (c.transaction-tx.ensures.begun, c.as_slice-answers.ensures) at c.in_ok-add_each.ensures in
    let rows = c.args.rows.now in
    let mid = state g.S.Store c.add_each.new.tx.conn.now in
    let end = state g.S.Store c.commit.new.self.0 in
    let late : HasCleanDisk end = subst (λ h. HasCleanDisk (state g.S.Store h)) same clean in
    subst (λ h. AddAnswersFails rows (state g.S.Store c.args.conn.now) (state g.S.Store h)) (sym same)
    (inl (commit_fails g.S.Store c.args.conn.now c.requires.hall (λ a b. HasTaken AddsAnswer a rows b) mid end
    c.in-Err.error it.carries it.done
    (survived _ _ _ c.in-Err.ensures.survives) late (c.fault_of.ensures failed) (c.in-Err.ensures.err late)))

pub returns-in_err-add_each-clause-cause : goal.returns-in_err-add_each-clause-cause
returns-in_err-add_each-clause-cause g c clean =
    let same : c.conn-1.given.0 ≡ c.drop-tx.new.self.0 = search rules in
    let it = rw (c.transaction-tx.ensures.begun, c.as_slice-answers.ensures) at c.in_err-add_each.ensures in
    let rows = c.args.rows.now in
    let mid = state g.S.Store c.add_each.new.tx.conn.now in
    let end = state g.S.Store c.drop-tx.new.self.0 in
    let late : HasCleanDisk end = subst (λ h. HasCleanDisk (state g.S.Store h)) same clean in
    let lasts = survived mid end _ c.drop-tx.ensures.survives in
    let now : HasCleanDisk mid = omega (arith, lasts.clean, late) in
    let was : HasCleanDisk (state g.S.Store c.args.conn.now) = omega (arith, it.carries.lasts.clean, now) in
    fails_as c.from_residual.result _ _ c.from_residual.ensures.1 (λ failed.
    subst (λ h. AddAnswersFails rows (state g.S.Store c.args.conn.now) (state g.S.Store h)) (sym same)
    (whole_cause g.S.Store c.args.conn.now c.requires.hall c.live.ensures mid end was lasts
    (λ goes. it.cause now goes failed)))
