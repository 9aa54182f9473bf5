use Rattle.std.proofs.Common.{◌==◌, not, ap}
use Rattle.sqlite.specs.Held.{state}
use Rattle.hall_sql.proofs.AnswerCounts.{listing_tells}
use Rattle.hall_sql.proofs.AnswerLemmas.{answers_of_listed}
use Rattle.hall_sql.proofs.AnswerTexts.{answers_of_is}
use Rattle.hall_sql.proofs.Queries.{asked}
use Rattle.hall_sql.proofs.ReadLemmas.{answers_count, refused_rows}
use Rattle.hall_sql.proofs.UnreadRows.{unread}
use Rattle.hall_sql.proofs.sql_store.SqlStoreReadStore.has_answered.Goals as goal

pub count-requires-clause-asks : goal.count-requires-clause-asks
count-requires-clause-asks g c =
    rw (c.params-to_sql.ensures, c.params-to_sql-2.ensures, c.as_str.ensures.text, c.as_str-2.ensures.text)
    (asked (answers_of_is c.args.entrant.now c.args.round.now))

pub returns : goal.returns
returns g c =
    let old = state g.S.Store c.self.inside.conn in
    let new = state g.S.Store c.count.new.conn in
    rw (← c.self.view_is)
    (answers_count _ _ _ (not (c.in_ok-given.given == 0)) _ c.self.invariant c.count.ensures.rested c.in_ok-given.given
    (rw (c.params-to_sql.ensures, c.params-to_sql-2.ensures, c.as_str.ensures.text, c.as_str-2.ensures.text)
    at c.in_ok-given.ensures.counted)
    (λ it opened has keyed. listing_tells old.now.trees c.args.entrant.now c.args.round.now it.records
    (c.in_ok-given.given == 0) (ap (λ count. count == 0) it.many)
    (answers_of_listed old new has keyed.1.1.1.1.0 (c.schema-schema.ensures.live opened).0 it.are.1.rows it.records
    it.are.1.reads c.args.entrant.now c.args.round.now it.are.1.shown)))

pub returns-in_err-given : goal.returns-in_err-given
returns-in_err-given g c =
    rw (← c.self.view_is)
    (refused_rows _ _ _ c.from_residual.result _ _ c.self.invariant c.count.ensures.rested
    (unread (answers_of_is c.args.entrant.now c.args.round.now)) c.from_residual.ensures.1
    (rw (c.params-to_sql.ensures, c.params-to_sql-2.ensures, c.as_str.ensures.text, c.as_str-2.ensures.text)
    at c.in_err-given.ensures.cause))
