use Rattle.std.proofs.Common.{sym, subst, [], ◌∷◌}
use Rattle.sqlite.specs.Held.{state}
use Rattle.sqlite.specs.declared.types.Value.TheVariants.{Text}
use Rattle.hall_store.specs.Caller.{IsKeyHolder}
use Rattle.hall_sql.specs.Rows.{world_of}
use Rattle.hall_sql.specs.declared.people.TheConstants.{PERSON_BY_KEY}
use Rattle.hall_sql.proofs.PeopleKeys.{key_holder}
use Rattle.hall_sql.proofs.ReadLemmas.{finds_row}
use Rattle.hall_sql.proofs.UnreadRows.{asks_one, person_by_key_one, unread}
use Rattle.hall_sql.proofs.PeopleTexts.{person_by_key_is}
use Rattle.hall_sql.proofs.Queries.{asked}
use Rattle.hall_sql.proofs.sql_store.SqlStoreReadStore.person_by_key.Goals as goal

pub find-requires-clause-asks : goal.find-requires-clause-asks
find-requires-clause-asks g c =
    rw (c.params-to_sql.ensures, c.as_str.ensures.text) (asked (person_by_key_is c.args.key.now))

pub find-requires-clause-one : goal.find-requires-clause-one
find-requires-clause-one g c =
    rw (c.params-to_sql.ensures, c.as_str.ensures.text)
    (asks_one g.S.Store PERSON_BY_KEY.now (Text c.args.key.now ∷ []) (person_by_key_one c.args.key.now))

pub returns : goal.returns
returns g c =
    rw (← c.self.view_is)
    (finds_row _ _ _ c.find.result _ c.self.invariant c.find.ensures.rested (unread (person_by_key_is c.args.key.now))
    (rw (c.params-to_sql.ensures, c.as_str.ensures.text) at c.find.ensures.found)
    (rw (c.params-to_sql.ensures, c.as_str.ensures.text) at c.find.ensures.cause)
    (λ found it opened has keyed. subst
    (IsKeyHolder (world_of (state g.S.Store c.self.inside.conn).now.trees) c.args.key.now) (sym it.is)
    (key_holder (state g.S.Store c.self.inside.conn) (state g.S.Store c.find.new.conn) has keyed.0
    (c.schema-schema.ensures.live opened).0 it.are.1.rows it.records it.are.1.reads it.few c.args.key.now
    it.are.1.shown)))
