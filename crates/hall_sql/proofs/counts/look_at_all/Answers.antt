use Rattle.hall_sql.proofs.CountLemmas.{more_read}
use Rattle.hall_sql.proofs.counts.look_at_all.Goals as goal

pub loop-row-preserved : goal.loop-row-preserved
loop-row-preserved g c =
    more_read g.T.Counted.counts c.args.rows.now c.loop-row.row-index c.row-item.result c.loop-row-test.true
    c.row-item.is
    c.loop-row.invariant c.in_ok-look.ensures.one
