use Rattle.hall_sql.specs.declared.protests.TheConstants.{PROTEST}
use Rattle.hall_sql.specs.Rows.{protest_in}
use Rattle.sqlite.specs.declared.types.Value.TheVariants.{Text}
use Rattle.std.proofs.Common.{arith, ◌∙◌, sym, ap, subst, filter, IfSome, [], ◌∷◌}
use Rattle.std.proofs.lemmas.Option.{IfSome_then}
use Rattle.std.proofs.lemmas.Result.{IfOk-weaker}
use Rattle.sqlite.specs.Effect.{Database}
use Rattle.sqlite.specs.Held.{state}
use Rattle.sqlite.specs.State.{HasCleanDisk}
use Rattle.hall_sql.specs.Columns.{is_protest_under, IsAlone}
use Rattle.hall_sql.specs.Tables.{IsHallSchema}
use Rattle.hall_sql.proofs.ProtestLemmas.{protest_found, protest_alone}
use Rattle.hall_sql.proofs.ReadLemmas.{finds_row}
use Rattle.hall_sql.proofs.UnreadRows.{asks_one, protest_one, unread}
use Rattle.hall_sql.specs.Cause.{IsFound}
use Rattle.hall_sql.proofs.ProtestTexts.{protest_is}
use Rattle.hall_sql.proofs.Queries.{asked}
use Rattle.hall_sql.proofs.protests.protest.Goals as goal

pub find-requires-clause-asks : goal.find-requires-clause-asks
find-requires-clause-asks g c =
    rw (
      c.params-to_sql.ensures,
      c.params-to_sql-2.ensures,
      c.params-to_sql-3.ensures,
      c.as_str.ensures.text,
      c.as_str-2.ensures.text,
      c.as_str-3.ensures.text,
    )
    (asked (protest_is c.args.key.now))

pub find-requires-clause-one : goal.find-requires-clause-one
find-requires-clause-one g c =
    rw (
      c.params-to_sql.ensures,
      c.params-to_sql-2.ensures,
      c.params-to_sql-3.ensures,
      c.as_str.ensures.text,
      c.as_str-2.ensures.text,
      c.as_str-3.ensures.text,
    )
    (asks_one g.S.Store PROTEST.now (Text c.args.key.now.entrant ∷ Text c.args.key.now.round ∷ Text c.args.key.now.token
    ∷ []) (protest_one c.args.key.now))

pub returns-clause-reads : goal.returns-clause-reads
returns-clause-reads g c =
    let key = c.args.key.now in
    let told = rw (
      c.params-to_sql.ensures,
      c.params-to_sql-2.ensures,
      c.params-to_sql-3.ensures,
      c.as_str.ensures.text,
      c.as_str-2.ensures.text,
      c.as_str-3.ensures.text,
    ) at c.find.ensures in
    finds_row _ _ _ c.find.result _ c.requires.hall told.rested (unread (protest_is key)) told.found told.cause
    (λ found it opened has keyed. it.is ∙ protest_found key _ (state g.S.Store c.find.new.conn)
    it.are.1.rows it.records has it.are.1.shown it.are.1.reads it.few)

pub returns-clause-alone : goal.returns-clause-alone
returns-clause-alone g c clean =
    let old = state g.S.Store c.args.conn.now in
    let new = state g.S.Store c.find.new.conn in
    let key = c.args.key.now in
    let rested = c.find.ensures.rested in
    let was : HasCleanDisk old = omega (arith, rested.follows.lasts.clean, clean) in
    IfOk-weaker c.find.result (IsFound protest_in PROTEST.now (Text key.entrant ∷ Text key.round ∷ Text key.token ∷ [])
    old new) _ (λ o it.
    let has : IsHallSchema old.now.schema = (c.requires.hall.settled was (rested.follows.opened clean it.are.0)).1 in
    let alone = protest_alone key old new it.are.1.rows it.records has it.are.1.shown it.are.1.reads it.few in
    IfSome_then o (subst (λ found. IfSome found (IsAlone key old)) (sym it.is) alone)
    (λ row one. record {
      one = one.one;
      found = ap (λ (d : Database). filter (is_protest_under key) (d.trees 12)) (rested.same clean it.are.0) ∙
          one.found;
      reads = one.reads;
    }))
    ((rw (
      c.params-to_sql.ensures,
      c.params-to_sql-2.ensures,
      c.params-to_sql-3.ensures,
      c.as_str.ensures.text,
      c.as_str-2.ensures.text,
      c.as_str-3.ensures.text,
    ) at c.find.ensures.found) clean)
