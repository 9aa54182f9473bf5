use Rattle.std.proofs.Common.{[], ◌∷◌}
use Rattle.sqlite.specs.Held.{state}
use Rattle.sqlite.specs.declared.types.Value.TheVariants.{Text}
use Rattle.hall_sql.specs.Bounds.{text_before}
use Rattle.hall_sql.specs.Rows.{person_in}
use Rattle.hall_sql.specs.declared.people.TheConstants.{PEOPLE_AFTER}
use Rattle.hall_sql.proofs.PeopleKeys.{people_after_listed}
use Rattle.hall_sql.proofs.PeopleTexts.{people_after_asked}
use Rattle.hall_sql.proofs.ReadLemmas.{reads_rows}
use Rattle.hall_sql.proofs.UnreadRows.{people_after_unread}
use Rattle.hall_sql.proofs.sql_store.SqlStoreReadStore.people_after.Goals as goal

pub read-requires-clause-asks : goal.read-requires-clause-asks
read-requires-clause-asks g c = rw (c.params-to_sql.ensures, c.text_before.ensures)
    (people_after_asked (text_before c.args.after.now))

pub returns : goal.returns
returns g c =
    let name = text_before c.args.after.now in
    rw (← c.self.view_is)
    (reads_rows person_in PEOPLE_AFTER.now (Text name ∷ []) c.read.result _ c.self.invariant
    c.read.ensures.rested (λ out. out.items) (people_after_unread name)
    (rw (c.params-to_sql.ensures, c.text_before.ensures) at c.read.ensures.read)
    (rw (c.params-to_sql.ensures, c.text_before.ensures) at c.read.ensures.cause)
    (λ out it opened has keyed. people_after_listed _ (state g.S.Store c.read.new.conn) has keyed.0
    (c.schema-schema.ensures.live opened).0 it.rows out.items it.reads c.args.after.now it.shown))
