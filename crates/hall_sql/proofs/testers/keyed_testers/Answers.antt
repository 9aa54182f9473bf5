use Rattle.sqlite.specs.Held.{state}
use Rattle.hall_sql.proofs.ReadLemmas.{reads_rows}
use Rattle.hall_sql.proofs.TesterListings.{testers_of_named}
use Rattle.hall_sql.proofs.TesterTexts.{testers_of_is}
use Rattle.hall_sql.proofs.Queries.{asked}
use Rattle.hall_sql.proofs.UnreadRows.{unread}
use Rattle.hall_sql.proofs.testers.keyed_testers.Goals as goal

pub read-requires-clause-asks : goal.read-requires-clause-asks
read-requires-clause-asks g c =
    rw (c.params-to_sql.ensures, c.as_str.ensures.text) (asked (testers_of_is c.args.round.now))

pub returns : goal.returns
returns g c =
    reads_rows _ _ _ c.read.result _ c.requires.hall
    c.read.ensures.rested (λ out. out.items) (unread (testers_of_is c.args.round.now))
    (rw (c.params-to_sql.ensures, c.as_str.ensures.text) at c.read.ensures.read)
    (rw (c.params-to_sql.ensures, c.as_str.ensures.text) at c.read.ensures.cause)
    (λ out it opened has keyed. testers_of_named _ (state g.S.Store c.read.new.conn) has keyed.1.1.1.1.1.1.0
    (c.schema-schema.ensures.live opened).0 it.rows out.items it.reads c.args.round.now it.shown)
