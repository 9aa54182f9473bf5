use Rattle.std.proofs.Common.{◌∙◌, [], ◌∷◌}
use Rattle.sqlite.specs.Held.{state}
use Rattle.sqlite.specs.declared.types.Value.TheVariants.{Text}
use Rattle.hall_sql.specs.declared.people.TheConstants.{PERSON}
use Rattle.hall_sql.proofs.PeopleLemmas.{person_found}
use Rattle.hall_sql.proofs.ReadLemmas.{finds_row}
use Rattle.hall_sql.proofs.UnreadRows.{asks_one, person_one, unread}
use Rattle.hall_sql.proofs.PeopleTexts.{person_is}
use Rattle.hall_sql.proofs.Queries.{asked}
use Rattle.hall_sql.proofs.sql_store.SqlStoreReadStore.person.Goals as goal

pub find-requires-clause-asks : goal.find-requires-clause-asks
find-requires-clause-asks g c = rw (c.params-to_sql.ensures, c.as_str.ensures.text) (asked (person_is c.args.name.now))

pub find-requires-clause-one : goal.find-requires-clause-one
find-requires-clause-one g c =
    rw (c.params-to_sql.ensures, c.as_str.ensures.text)
    (asks_one g.S.Store PERSON.now (Text c.args.name.now ∷ []) (person_one c.args.name.now))

pub returns : goal.returns
returns g c =
    rw (← c.self.view_is)
    (finds_row _ _ _ c.find.result _ c.self.invariant c.find.ensures.rested (unread (person_is c.args.name.now))
    (rw (c.params-to_sql.ensures, c.as_str.ensures.text) at c.find.ensures.found)
    (rw (c.params-to_sql.ensures, c.as_str.ensures.text) at c.find.ensures.cause)
    (λ found it opened has keyed. it.is ∙ person_found c.args.name.now _ (state g.S.Store c.find.new.conn)
    it.are.1.rows it.records has it.are.1.shown it.are.1.reads it.few))
