use Rattle.std.proofs.lemmas.Result.{err_from_is_err_and}
use Rattle.std.proofs.lemmas.List.{at_drop_all}
use Rattle.hall_http.specs.Routes.{rows_from}
use Rattle.hall_http.proofs.Patterns.{kept_more, kept_refuses, texts}
use Rattle.hall_http.proofs.routes.insert_all.Goals as goal

pub returns-in_err-insert-clause-err : goal.returns-in_err-insert-clause-err
returns-in_err-insert-clause-err c =
    let p = err_from_is_err_and c.from_residual.result c.from_residual.ensures.1 in
    let is = kept_refuses _ _ _ _ _ _ _ c.loop-pattern-test.true c.in_err-insert.ensures c.loop-pattern.invariant in
    rw (p.1, p.2) is

pub loop-pattern-preserved : goal.loop-pattern-preserved
loop-pattern-preserved c = kept_more _ _ _ _ _ _ c.loop-pattern-test.true c.in_ok-insert.ensures
    c.loop-pattern.invariant

pub returns-clause-ok : goal.returns-clause-ok
unfolding rows_from
returns-clause-ok c = rw (at_drop_all (λ xs. rows_from c.loop-pattern.router (texts xs)) c.args.patterns.now
    c.loop-pattern.pattern-index c.loop-pattern-test.false) at c.loop-pattern.invariant.0
