use Rattle.std.proofs.Common.{◌≤◌, length, arith}
use Rattle.std.proofs.lemmas.Result.{IfOk-weaker, IfErr-weaker}
use Rattle.sqlite.specs.Held.{state}
use Rattle.sqlite.specs.State.{HasCleanDisk}
use Rattle.hall_sql.proofs.CallLemmas.{shown_was_open}
use Rattle.hall_store.proofs.Knowing.{fails_as}
use Rattle.hall_sql.proofs.FoundLemmas.{length_read}
use Rattle.hall_sql.proofs.reads.find.Goals as goal

pub returns-in_err-read-clause-cause : goal.returns-in_err-read-clause-cause
returns-in_err-read-clause-cause g c clean =
    fails_as c.from_residual.result _ _ c.from_residual.ensures.1 (λ failed. c.in_err-read.ensures.cause clean failed)

pub returns-clause-found : goal.returns-clause-found
returns-clause-found g c clean =
    IfOk-weaker c.at_most_one.result _ _ (λ found one.
    record { records = c.in_ok-read.field-0.items; few = one.0; is = one.1; are = c.in_ok-read.ensures.read clean })
    c.at_most_one.ensures.one

-- more than one is never refused, since there is at most one
pub returns-clause-cause : goal.returns-clause-cause
returns-clause-cause g c clean =
    let old = state g.S.Store c.args.conn.now in
    let new = state g.S.Store c.read.new.conn in
    let all = (c.in_ok-read.ensures.read clean).1 in
    let was : HasCleanDisk old = omega (arith, c.read.ensures.rested.follows.lasts.clean, clean) in
    let opens = shown_was_open _ _ old new all.rows all.shown in
    let few : length all.rows ≤ 1 = c.requires.one c.args.conn.now c.read.new.conn all.rows
    (record { schema = (c.requires.hall.settled was opens).1; keyed = c.requires.hall.keyed was opens })
    (c.live.ensures opens).0 all.shown in
    let same = length_read g.T.Record.read all.rows c.in_ok-read.field-0.items all.reads in
    IfErr-weaker c.at_most_one.result _ _ (λ fault long failed. absurd (omega (arith, same, long, few)))
    c.at_most_one.ensures.more
