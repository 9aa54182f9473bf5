use Rattle.std.proofs.Common.{inr, sym, subst}
use Rattle.sqlite.specs.Given.{Advances}
use Rattle.hall_store.proofs.Knowing.{fails_as}
use Rattle.hall_sql.proofs.feed.step.Goals as goal

pub returns-in_err-give-clause-cause : goal.returns-in_err-give-clause-cause
returns-in_err-give-clause-cause g c clean =
    let moves = subst (Advances g.S.Store c.args.rows.now.conn.now c.advance.new.self.conn.now) (sym c.in-Some.ensures)
    (c.in_default.ensures.ok clean) in
    fails_as c.from_residual.result _ _ c.from_residual.ensures.1 (λ failed.
    inr (c.in_default.ensures.same clean, c.in-Some.row.now, moves, c.in_err-give.ensures.refused failed))
