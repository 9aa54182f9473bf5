use Rattle.hall_sql.proofs.CountLemmas.{kind_read}
use Rattle.hall_sql.proofs.counts.kind_of.Goals as goal

pub returns-then-is_of_kind-clause-text : goal.returns-then-is_of_kind-clause-text
returns-then-is_of_kind-clause-text g c =
    kind_read g.K.TextKind.LEAST g.K.TextKind.MOST g.K.TextKind.allows c.args.text.now
    (c.is_of_kind.ensures.0 c.if-is_of_kind.true)
