use Rattle.std.proofs.Common.{inl, inr}
use Rattle.sqlite.specs.Values.{bound}
use Rattle.sqlite.specs.Held.{state}
use Rattle.hall_sql.specs.Feed.{noted}
use Rattle.hall_store.proofs.Knowing.{fails_as}
use Rattle.hall_sql.proofs.LookedLemmas.{all_looked, only_store}
use Rattle.hall_sql.proofs.looks.look.Goals as goal

pub returns-in_err-feed_any-clause-cause : goal.returns-in_err-feed_any-clause-cause
returns-in_err-feed_any-clause-cause g c clean =
    fails_as c.from_residual.result _ _ c.from_residual.ensures.1 (λ failed.
    inl (only_store c.args.sql.now (bound c.args.params.now) (state g.S.Store c.args.conn.now)
    (state g.S.Store c.feed_any.new.conn) _ _ (c.in_err-feed_any.ensures.cause clean failed)))

pub returns-clause-told : goal.returns-clause-told
returns-clause-told g c clean =
    let rows = noted c.looked.inside.rows.items in
    let it = all_looked c.args.sql.now (bound c.args.params.now) (state g.S.Store c.args.conn.now)
    (state g.S.Store c.feed_any.new.conn) g.S.Store rows
    (rw (c.new.ensures, ← c.looked.view_is) at c.in_ok-feed_any.ensures.fed) clean in
    record {
      serves = it.0;
      served = it.1;
      rows = rows;
      tells = rw c.if-is_any_unread.false at c.looked.invariant;
      shown = it.2;
    }

pub returns-then-is_any_unread-clause-cause : goal.returns-then-is_any_unread-clause-cause
returns-then-is_any_unread-clause-cause g c clean failed =
    let rows = noted c.looked.inside.rows.items in
    let it = all_looked c.args.sql.now (bound c.args.params.now) (state g.S.Store c.args.conn.now)
    (state g.S.Store c.feed_any.new.conn) g.S.Store rows
    (rw (c.new.ensures, ← c.looked.view_is) at c.in_ok-feed_any.ensures.fed) clean in
    inr (rows, it.2, rw c.if-is_any_unread.true at c.looked.invariant)
