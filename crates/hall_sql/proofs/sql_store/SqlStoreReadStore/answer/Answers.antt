use Rattle.std.proofs.Common.{◌∙◌}
use Rattle.sqlite.specs.Held.{state}
use Rattle.hall_sql.specs.declared.answers.TheConstants.{ANSWER}
use Rattle.hall_sql.proofs.AnswerLemmas.{answer_found}
use Rattle.hall_sql.proofs.AnswerTexts as queries
use Rattle.hall_sql.proofs.Queries.{asked}
use Rattle.hall_sql.proofs.ReadLemmas.{finds_row}
use Rattle.hall_sql.proofs.UnreadRows.{asks_one, answer_one, unread}
use Rattle.hall_sql.proofs.sql_store.SqlStoreReadStore.answer.Goals as goal

pub find-requires-clause-asks : goal.find-requires-clause-asks
find-requires-clause-asks g c =
    rw (
      c.params-to_sql.ensures,
      c.params-to_sql-2.ensures,
      c.params-to_sql-3.ensures,
      c.params-to_sql-4.ensures,
      c.as_str.ensures.text,
      c.as_str-2.ensures.text,
      c.as_str-3.ensures.text,
      c.get.ensures.value,
    )
    (asked (queries.answer_is c.args.key.now))

pub find-requires-clause-one : goal.find-requires-clause-one
find-requires-clause-one g c =
    rw (
      c.params-to_sql.ensures,
      c.params-to_sql-2.ensures,
      c.params-to_sql-3.ensures,
      c.params-to_sql-4.ensures,
      c.as_str.ensures.text,
      c.as_str-2.ensures.text,
      c.as_str-3.ensures.text,
      c.get.ensures.value,
    )
    (asks_one g.S.Store ANSWER.now (queries.answer c.args.key.now).params (answer_one c.args.key.now))

pub returns : goal.returns
returns g c =
    let key = c.args.key.now in
    let told = rw (
      c.params-to_sql.ensures,
      c.params-to_sql-2.ensures,
      c.params-to_sql-3.ensures,
      c.params-to_sql-4.ensures,
      c.as_str.ensures.text,
      c.as_str-2.ensures.text,
      c.as_str-3.ensures.text,
      c.get.ensures.value,
    ) at c.find.ensures in
    rw (← c.self.view_is)
    (finds_row _ _ _ c.find.result _ c.self.invariant told.rested (unread (queries.answer_is key)) told.found told.cause
    (λ found it opened has keyed. it.is ∙ answer_found key _ (state g.S.Store c.find.new.conn) it.are.1.rows
    it.records has it.are.1.shown it.are.1.reads it.few))
