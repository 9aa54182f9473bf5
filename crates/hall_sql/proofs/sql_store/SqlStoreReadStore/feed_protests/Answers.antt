use Rattle.sqlite.specs.declared.types.Value.TheVariants.{Text}
use Rattle.std.proofs.Common.{◌≡◌, [], ◌∷◌}
use Rattle.sqlite.specs.Held.{state}
use Rattle.hall_store.specs.Store.{protests_in}
use Rattle.hall_sql.specs.Rows.{protest_in}
use Rattle.hall_sql.specs.declared.protests.TheConstants.{PROTESTS_IN}
use Rattle.hall_sql.proofs.ProtestTexts.{protests_in_is}
use Rattle.hall_sql.proofs.FeedLemmas.{fed_rows, fed_whole}
use Rattle.hall_sql.proofs.FeedListings.{protests_in_selected}
use Rattle.hall_sql.proofs.FailLemmas.{fed_fault}
use Rattle.hall_sql.proofs.Queries.{asked}
use Rattle.hall_sql.proofs.sql_store.SqlStoreReadStore.feed_protests.Goals as goal

pub feed-requires-clause-asks : goal.feed-requires-clause-asks
feed-requires-clause-asks g c =
    rw (c.params-to_sql.ensures, c.as_str.ensures.text) (asked (protests_in_is c.args.round.now))

pub returns-clause-fed : goal.returns-clause-fed
returns-clause-fed g c =
    let old = state g.S.Store c.self.inside.conn in
    rw (← c.self.view_is) (fed_rows (protests_in_is c.args.round.now) g.S.Store g.K.Sink.takes
    (λ world rows. rows ≡ protests_in world c.args.round.now)
    old (state g.S.Store c.feed.new.conn) c.args.sink.now c.feed.new.sink c.feed.result c.self.invariant
    c.feed.ensures.rested
    (λ opened. (c.schema-schema.ensures.live opened).0) (protests_in_selected old c.args.round.now)
    (rw (c.params-to_sql.ensures, c.as_str.ensures.text) at c.feed.ensures.fed))

pub returns-clause-whole : goal.returns-clause-whole
returns-clause-whole g c =
    rw (← c.self.view_is) (λ clean. fed_whole g.S.Store protest_in g.K.Sink.takes PROTESTS_IN.now
    (Text c.args.round.now ∷ []) (state g.S.Store c.self.inside.conn)
    (state g.S.Store c.feed.new.conn) c.args.sink.now c.feed.new.sink c.feed.result clean
    (rw (c.params-to_sql.ensures, c.as_str.ensures.text) at c.feed.ensures.fed))

pub returns-clause-cause : goal.returns-clause-cause
returns-clause-cause g c =
    rw (← c.self.view_is) (rw (c.params-to_sql.ensures, c.as_str.ensures.text) at c.feed.ensures.cause)

pub returns-clause-fault : goal.returns-clause-fault
returns-clause-fault g c =
    let old = state g.S.Store c.self.inside.conn in
    rw (← c.self.view_is) (fed_fault (protests_in_is c.args.round.now)
    g.K.Sink.takes g.K.Sink.refuses (λ world rows. rows ≡ protests_in world c.args.round.now) c.args.sink.now
    c.feed.new.sink c.self.invariant c.feed.ensures.rested
    (λ opened. (c.schema-schema.ensures.live opened).0) (protests_in_selected old c.args.round.now) c.feed.result
    (rw (c.params-to_sql.ensures, c.as_str.ensures.text) at c.feed.ensures.cause))
