use Rattle.sqlite.specs.Held.{state}
use Rattle.hall_sql.proofs.ReadLemmas.{reads_rows}
use Rattle.hall_sql.proofs.TesterListings.{all_testers_listed}
use Rattle.hall_sql.proofs.TesterTexts.{all_testers_are}
use Rattle.hall_sql.proofs.UnreadRows.{unread}
use Rattle.hall_sql.proofs.Wordings.{hall_in, hall_like}
use Rattle.hall_sql.proofs.Queries.{asked_in}
use Rattle.hall_sql.proofs.testers.all_testers.Goals as goal

pub read-requires-clause-asks : goal.read-requires-clause-asks
read-requires-clause-asks g c = λ schema ours. asked_in (all_testers_are schema ours)

pub returns : goal.returns
returns g c =
    reads_rows _ _ _ c.read.result _ c.requires.hall c.read.ensures.rested (λ out. out.items)
    (unread (λ u. all_testers_are (hall_in u) (hall_like u))) c.read.ensures.read c.read.ensures.cause
    (λ out it opened has keyed. all_testers_listed _ (state g.S.Store c.read.new.conn) has keyed.1.1.1.1.1.1.0
    (c.schema-schema.ensures.live opened).0 it.rows out.items it.reads it.shown)
