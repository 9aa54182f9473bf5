use Rattle.sqlite.specs.Held.{state}
use Rattle.hall_sql.proofs.AnswerLemmas.{answers_in_listed}
use Rattle.hall_sql.proofs.AnswerTexts.{answers_in_is}
use Rattle.hall_sql.proofs.Queries.{asked}
use Rattle.hall_sql.proofs.ReadLemmas.{reads_rows}
use Rattle.hall_sql.proofs.UnreadRows.{unread}
use Rattle.hall_sql.proofs.sql_store.SqlStoreReadStore.answers_in.Goals as goal

pub read-requires-clause-asks : goal.read-requires-clause-asks
read-requires-clause-asks g c =
    rw (c.params-to_sql.ensures, c.as_str.ensures.text) (asked (answers_in_is c.args.round.now))

pub returns : goal.returns
returns g c =
    let told = rw (c.params-to_sql.ensures, c.as_str.ensures.text) at c.read.ensures in
    rw (← c.self.view_is)
    (reads_rows _ _ _ c.read.result _ c.self.invariant told.rested (λ out. out.items)
    (unread (answers_in_is c.args.round.now)) told.read told.cause
    (λ out it opened has keyed. answers_in_listed _ (state g.S.Store c.read.new.conn) has keyed.1.1.1.1.0
    (c.schema-schema.ensures.live opened).0 it.rows out.items it.reads c.args.round.now it.shown))
