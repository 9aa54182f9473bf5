use Rattle.std.proofs.Common.{rules, ◌≡◌, arith}
use Rattle.sqlite.specs.Held.{state}
use Rattle.sqlite.specs.State.{HasCleanDisk}
use Rattle.std.proofs.lemmas.Result.{IfErr-weaker}
use Rattle.hall_sql.proofs.WriteCauseLemmas.{goes_on, head_found, many_heads, new_head, over_head}
use Rattle.hall_sql.proofs.round_writes.put_head.Goals as goal

pub returns-in-0-clause-cause : goal.returns-in-0-clause-cause
returns-in-0-clause-cause g c clean goes =
    let old = state g.S.Store c.args.tx.now.conn.now in
    let mid = state g.S.Store c.look.new.tx.conn.now in
    let new = state g.S.Store c.put_new.new.tx.conn.now in
    let was : HasCleanDisk mid = omega (arith, c.put_new.ensures.carries.lasts.clean, clean) in
    let it = c.in_ok-look.ensures.done was goes.mode in
    let many : c.in_ok-look.field-0 ≡ 0 = search rules in
    IfErr-weaker c.put_new.result _ _ (λ fault why failed.
    head_found c.args.round.now c.in_ok-look.field-0 old mid new c.look.ensures.carries.lasts was
    c.put_new.ensures.carries.lasts (it.does goes.hall)
    (new_head c.args.round.now c.in_ok-look.field-0 mid new many (why failed)))
    (c.put_new.ensures.cause clean (goes_on old mid goes c.look.ensures.carries.lasts it.steps))

pub returns-in-1-clause-cause : goal.returns-in-1-clause-cause
returns-in-1-clause-cause g c clean goes =
    let old = state g.S.Store c.args.tx.now.conn.now in
    let mid = state g.S.Store c.look.new.tx.conn.now in
    let new = state g.S.Store c.put_over.new.tx.conn.now in
    let was : HasCleanDisk mid = omega (arith, c.put_over.ensures.carries.lasts.clean, clean) in
    let it = c.in_ok-look.ensures.done was goes.mode in
    let many : c.in_ok-look.field-0 ≡ 1 = search rules in
    IfErr-weaker c.put_over.result _ _ (λ fault why failed.
    head_found c.args.round.now c.in_ok-look.field-0 old mid new c.look.ensures.carries.lasts was
    c.put_over.ensures.carries.lasts (it.does goes.hall)
    (over_head c.args.round.now c.in_ok-look.field-0 mid new many (why failed)))
    (c.put_over.ensures.cause clean (goes_on old mid goes c.look.ensures.carries.lasts it.steps))

pub returns-in_default-clause-cause : goal.returns-in_default-clause-cause
returns-in_default-clause-cause g c clean goes failed =
    let it = c.in_ok-look.ensures.done clean goes.mode in
    let some : ¬ (c.in_ok-look.field-0 ≡ 0) = search rules in
    let more : ¬ (c.in_ok-look.field-0 ≡ 1) = search rules in
    absurd (many_heads c.args.round.now.id c.in_ok-look.field-0 (state g.S.Store c.args.tx.now.conn.now) goes
    (it.does goes.hall).many some more)
