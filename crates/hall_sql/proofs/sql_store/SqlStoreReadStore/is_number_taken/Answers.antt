use Rattle.std.proofs.Common.{◌==◌, not, ap}
use Rattle.sqlite.specs.Held.{state}
use Rattle.hall_sql.proofs.AnswerCounts.{number_told}
use Rattle.hall_sql.proofs.AnswerTexts.{number_taken_is}
use Rattle.hall_sql.proofs.Queries.{asked}
use Rattle.hall_sql.proofs.ReadLemmas.{answers_count, refused_rows}
use Rattle.hall_sql.proofs.UnreadRows.{unread}
use Rattle.hall_sql.proofs.sql_store.SqlStoreReadStore.is_number_taken.Goals as goal

pub count-requires-clause-asks : goal.count-requires-clause-asks
count-requires-clause-asks g c =
    rw (
      c.params-to_sql.ensures,
      c.params-to_sql-2.ensures,
      c.params-to_sql-3.ensures,
      c.params-to_sql-4.ensures,
      c.as_str.ensures.text,
      c.as_str-2.ensures.text,
      c.get.ensures.value,
      c.get-2.ensures.value,
    )
    (asked (number_taken_is c.args.entrant.now c.args.round.now c.args.number c.args.n))

pub returns : goal.returns
returns g c =
    rw (← c.self.view_is)
    (answers_count _ _ _ (not (c.in_ok-count.count == 0)) _ c.self.invariant c.count.ensures.rested c.in_ok-count.count
    (rw (
      c.params-to_sql.ensures,
      c.params-to_sql-2.ensures,
      c.params-to_sql-3.ensures,
      c.params-to_sql-4.ensures,
      c.as_str.ensures.text,
      c.as_str-2.ensures.text,
      c.get.ensures.value,
      c.get-2.ensures.value,
    )
    at c.in_ok-count.ensures.counted)
    (λ it opened has keyed. number_told (state g.S.Store c.self.inside.conn) (state g.S.Store c.count.new.conn) has
    keyed.1.1.1.1.0 (c.schema-schema.ensures.live opened).0 it.are.1.rows it.records it.are.1.reads c.args.entrant.now
    c.args.round.now c.args.number c.args.n (c.in_ok-count.count == 0) (ap (λ count. count == 0) it.many)
    it.are.1.shown))

pub returns-in_err-count : goal.returns-in_err-count
returns-in_err-count g c =
    rw (← c.self.view_is)
    (refused_rows _ _ _ c.from_residual.result _ _ c.self.invariant c.count.ensures.rested
    (unread (number_taken_is c.args.entrant.now c.args.round.now c.args.number c.args.n)) c.from_residual.ensures.1
    (rw (
      c.params-to_sql.ensures,
      c.params-to_sql-2.ensures,
      c.params-to_sql-3.ensures,
      c.params-to_sql-4.ensures,
      c.as_str.ensures.text,
      c.as_str-2.ensures.text,
      c.get.ensures.value,
      c.get-2.ensures.value,
    )
    at c.in_err-count.ensures.cause))
