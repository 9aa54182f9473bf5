use Rattle.std.proofs.Common.{◌∙◌, length, ap}
use Rattle.sqlite.specs.Held.{state}
use Rattle.hall_sql.specs.Rows.{world_of}
use Rattle.hall_sql.proofs.ProtestLemmas.{protests_of_listed}
use Rattle.hall_sql.proofs.ProtestOpen.{protests_counted}
use Rattle.hall_sql.proofs.ReadLemmas.{reads_count}
use Rattle.hall_sql.proofs.ProtestTexts.{protests_of_is}
use Rattle.hall_sql.proofs.Queries.{asked}
use Rattle.hall_sql.proofs.UnreadRows.{unread}
use Rattle.hall_sql.proofs.sql_store.SqlStoreReadStore.protests_made.Goals as goal

pub count-requires-clause-asks : goal.count-requires-clause-asks
count-requires-clause-asks g c =
    rw (c.params-to_sql.ensures, c.params-to_sql-2.ensures, c.as_str.ensures.text, c.as_str-2.ensures.text)
    (asked (protests_of_is c.args.entrant.now c.args.round.now))

pub returns : goal.returns
returns g c =
    let old = state g.S.Store c.self.inside.conn in
    let new = state g.S.Store c.count.new.conn in
    let told = rw (c.params-to_sql.ensures, c.params-to_sql-2.ensures, c.as_str.ensures.text, c.as_str-2.ensures.text)
    at c.count.ensures in
    rw (← c.self.view_is)
    (reads_count _ _ _ c.count.result _
    c.self.invariant told.rested (λ count. count) (unread (protests_of_is c.args.entrant.now c.args.round.now))
    told.counted told.cause
    (λ count it opened has keyed. it.many ∙ ap length
    (protests_of_listed old new has keyed.1.1.1.1.1.0 (c.schema-schema.ensures.live opened).0 it.are.1.rows it.records
    it.are.1.reads c.args.entrant.now c.args.round.now it.are.1.shown) ∙ protests_counted (world_of old.now.trees)
    c.args.entrant.now c.args.round.now))
