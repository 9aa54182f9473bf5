use Rattle.sqlite.specs.Held.{state}
use Rattle.hall_sql.proofs.PlaceListings.{places_with_told}
use Rattle.hall_sql.proofs.ReadLemmas.{reads_rows}
use Rattle.hall_sql.proofs.RoundQueries.{places_with_is}
use Rattle.hall_sql.proofs.Queries.{asked}
use Rattle.hall_sql.proofs.UnreadRows.{unread}
use Rattle.hall_sql.proofs.rounds.places_with.Goals as goal

pub read-requires-clause-asks : goal.read-requires-clause-asks
read-requires-clause-asks g c =
    rw (c.params-to_sql.ensures, c.params-to_sql-2.ensures, c.as_str.ensures.text, c.as_str-2.ensures.text)
    (asked (places_with_is c.args.key.now))

pub returns : goal.returns
returns g c =
    let told = rw (c.params-to_sql.ensures, c.params-to_sql-2.ensures, c.as_str.ensures.text, c.as_str-2.ensures.text)
    at c.read.ensures in
    reads_rows _ _ _ c.read.result _ c.requires.hall told.rested (λ out. out.items)
    (unread (places_with_is c.args.key.now)) told.read told.cause
    (λ out it opened has keyed. places_with_told _ (state g.S.Store c.read.new.conn) has keyed.1.1.1.0
    (c.schema-schema.ensures.live opened).0 it.rows out.items it.reads c.args.key.now it.shown)
