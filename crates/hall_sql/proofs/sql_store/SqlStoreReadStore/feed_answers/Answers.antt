use Rattle.sqlite.specs.Held.{state}
use Rattle.hall_store.specs.Store.{IsListing, is_between}
use Rattle.hall_sql.specs.Rows.{answer_in}
use Rattle.hall_sql.proofs.AnswerTexts.{answers_between, answers_between_is}
use Rattle.hall_sql.proofs.FeedLemmas.{fed_whole, fed_rows}
use Rattle.hall_sql.proofs.FeedListings.{answers_between_selected}
use Rattle.hall_sql.proofs.FailLemmas.{fed_fault}
use Rattle.hall_sql.proofs.Queries.{asked}
use Rattle.hall_sql.proofs.sql_store.SqlStoreReadStore.feed_answers.Goals as goal

pub feed-requires-clause-asks : goal.feed-requires-clause-asks
feed-requires-clause-asks g c =
    rw (
      c.params-to_sql.ensures,
      c.params-to_sql-2.ensures,
      c.params-to_sql-3.ensures,
      c.as_str.ensures.text,
      c.text_before.ensures,
      c.text_up_to.ensures,
    )
    (asked (answers_between_is c.args.round.now c.args.after.now c.args.last.now))

pub returns-clause-fed : goal.returns-clause-fed
returns-clause-fed g c =
    let old = state g.S.Store c.self.inside.conn in
    let round = c.args.round.now in
    let after = c.args.after.now in
    let last = c.args.last.now in
    rw (← c.self.view_is) (fed_rows (answers_between_is round after last) g.S.Store
    g.K.Sink.takes (λ world rows. IsListing world (is_between round after last) rows)
    old (state g.S.Store c.feed.new.conn) c.args.sink.now c.feed.new.sink c.feed.result c.self.invariant
    c.feed.ensures.rested
    (λ opened. (c.schema-schema.ensures.live opened).0) (answers_between_selected old round after last)
    (rw (
      c.params-to_sql.ensures,
      c.params-to_sql-2.ensures,
      c.params-to_sql-3.ensures,
      c.as_str.ensures.text,
      c.text_before.ensures,
      c.text_up_to.ensures,
    ) at c.feed.ensures.fed))

pub returns-clause-whole : goal.returns-clause-whole
returns-clause-whole g c =
    let q = answers_between c.args.round.now c.args.after.now c.args.last.now in
    rw (← c.self.view_is) (λ clean. fed_whole g.S.Store answer_in g.K.Sink.takes q.text q.params
    (state g.S.Store c.self.inside.conn)
    (state g.S.Store c.feed.new.conn) c.args.sink.now c.feed.new.sink c.feed.result clean
    (rw (
      c.params-to_sql.ensures,
      c.params-to_sql-2.ensures,
      c.params-to_sql-3.ensures,
      c.as_str.ensures.text,
      c.text_before.ensures,
      c.text_up_to.ensures,
    ) at c.feed.ensures.fed))

pub returns-clause-cause : goal.returns-clause-cause
returns-clause-cause g c =
    rw (← c.self.view_is) (rw (
      c.params-to_sql.ensures,
      c.params-to_sql-2.ensures,
      c.params-to_sql-3.ensures,
      c.as_str.ensures.text,
      c.text_before.ensures,
      c.text_up_to.ensures,
    ) at c.feed.ensures.cause)

pub returns-clause-fault : goal.returns-clause-fault
returns-clause-fault g c =
    let round = c.args.round.now in
    let after = c.args.after.now in
    let last = c.args.last.now in
    rw (← c.self.view_is) (fed_fault (answers_between_is round after last)
    g.K.Sink.takes g.K.Sink.refuses (λ world rows. IsListing world (is_between round after last) rows) c.args.sink.now
    c.feed.new.sink c.self.invariant c.feed.ensures.rested
    (λ opened. (c.schema-schema.ensures.live opened).0)
    (answers_between_selected (state g.S.Store c.self.inside.conn) round after last) c.feed.result
    (rw (
      c.params-to_sql.ensures,
      c.params-to_sql-2.ensures,
      c.params-to_sql-3.ensures,
      c.as_str.ensures.text,
      c.text_before.ensures,
      c.text_up_to.ensures,
    ) at c.feed.ensures.cause))
