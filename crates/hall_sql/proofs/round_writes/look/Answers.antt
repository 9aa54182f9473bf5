use Rattle.std.proofs.Common.{rules, ◌≡◌, length, subst, [], ◌∷◌}
use Rattle.sqlite.specs.Held.{state}
use Rattle.hall_sql.specs.Inside.{MakesInside}
use Rattle.hall_sql.specs.RoundPuts.{CountsHeads}
use Rattle.hall_sql.proofs.RoundWrites.{head_counted}
use Rattle.sqlite.specs.declared.types.Value.TheVariants.{Text}
use Rattle.hall_sql.specs.declared.round_writes.TheConstants.{LOOK_HEAD}
use Rattle.hall_store.proofs.Knowing.{fails_as}
use Rattle.hall_sql.proofs.Written.{look_head_asked}
use Rattle.hall_sql.proofs.WriteCauseLemmas.{asked_inside}
use Rattle.hall_sql.proofs.round_writes.look.Goals as goal

pub returns-clause-done : goal.returns-clause-done
returns-clause-done g c clean inside =
    let old = state g.S.Store c.args.tx.now.conn.now in
    let new = state g.S.Store c.ask_in.new.tx.conn.now in
    let count : length c.in_ok-ask_in.field-0.items ≡ c.len.result = search rules in
    subst (λ n. MakesInside (CountsHeads c.args.id.now n) old new) count
    (head_counted c.args.id.now old new c.in_ok-ask_in.field-0.items inside
    (rw (c.params-to_sql.ensures, c.as_str.ensures.text) at (c.in_ok-ask_in.ensures.shown clean)))

pub returns-in_err-ask_in-clause-cause : goal.returns-in_err-ask_in-clause-cause
returns-in_err-ask_in-clause-cause g c clean goes =
    fails_as c.from_residual.result _ _ c.from_residual.ensures.1 (λ failed.
    asked_inside LOOK_HEAD.now (Text c.args.id.now ∷ []) (state g.S.Store c.args.tx.now.conn.now)
    (state g.S.Store c.ask_in.new.tx.conn.now) (look_head_asked c.args.id.now) goes
    (rw (c.params-to_sql.ensures, c.as_str.ensures.text) at (c.in_err-ask_in.ensures.cause clean failed)))
