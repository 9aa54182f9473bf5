use Rattle.std.proofs.Common.{◌∙◌}
use Rattle.sqlite.specs.Held.{state}
use Rattle.hall_sql.proofs.AnswerCounts.{answers_counted}
use Rattle.hall_sql.proofs.AnswerTexts.{answers_given_is}
use Rattle.hall_sql.proofs.Queries.{asked}
use Rattle.hall_sql.proofs.ReadLemmas.{reads_count}
use Rattle.hall_sql.proofs.UnreadRows.{unread}
use Rattle.hall_sql.proofs.sql_store.SqlStoreReadStore.answers_given.Goals as goal

pub count-requires-clause-asks : goal.count-requires-clause-asks
count-requires-clause-asks g c =
    rw (
      c.params-to_sql.ensures,
      c.params-to_sql-2.ensures,
      c.params-to_sql-3.ensures,
      c.as_str.ensures.text,
      c.as_str-2.ensures.text,
      c.get.ensures.value,
    )
    (asked (answers_given_is c.args.entrant.now c.args.round.now c.args.number))

pub returns : goal.returns
returns g c =
    let old = state g.S.Store c.self.inside.conn in
    let new = state g.S.Store c.count.new.conn in
    let told = rw (
      c.params-to_sql.ensures,
      c.params-to_sql-2.ensures,
      c.params-to_sql-3.ensures,
      c.as_str.ensures.text,
      c.as_str-2.ensures.text,
      c.get.ensures.value,
    ) at c.count.ensures in
    rw (← c.self.view_is)
    (reads_count _ _ _ c.count.result _ c.self.invariant told.rested (λ count. count)
    (unread (answers_given_is c.args.entrant.now c.args.round.now c.args.number)) told.counted told.cause
    (λ count it opened has keyed. it.many ∙ answers_counted old new has keyed.1.1.1.1.0
    (c.schema-schema.ensures.live opened).0 it.are.1.rows it.records it.are.1.reads c.args.entrant.now c.args.round.now
    c.args.number it.are.1.shown))
