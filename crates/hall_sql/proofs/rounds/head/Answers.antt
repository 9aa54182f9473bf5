use Rattle.hall_sql.specs.declared.rounds.TheConstants.{HEAD}
use Rattle.hall_sql.specs.Rows.{round_in}
use Rattle.sqlite.specs.declared.types.Value.TheVariants.{Text}
use Rattle.std.proofs.Common.{arith, ◌∙◌, [], ◌∷◌}
use Rattle.std.proofs.lemmas.Result.{IfOk-weaker}
use Rattle.sqlite.specs.Held.{state}
use Rattle.sqlite.specs.State.{HasCleanDisk}
use Rattle.hall_sql.specs.Tables.{IsHallSchema}
use Rattle.hall_sql.proofs.RoundWrites.{head_found, head_alone, head_stays}
use Rattle.hall_sql.proofs.ReadLemmas.{finds_row}
use Rattle.hall_sql.proofs.UnreadRows.{asks_one, head_one, unread}
use Rattle.hall_sql.specs.Cause.{IsFound}
use Rattle.hall_sql.proofs.HeadTexts.{head_is}
use Rattle.hall_sql.proofs.Queries.{asked}
use Rattle.hall_sql.proofs.rounds.head.Goals as goal

pub find-requires-clause-asks : goal.find-requires-clause-asks
find-requires-clause-asks g c = rw (c.params-to_sql.ensures, c.as_str.ensures.text) (asked (head_is c.args.id.now))

pub find-requires-clause-one : goal.find-requires-clause-one
find-requires-clause-one g c =
    rw (c.params-to_sql.ensures, c.as_str.ensures.text)
    (asks_one g.S.Store HEAD.now (Text c.args.id.now ∷ []) (head_one c.args.id.now))

pub returns-clause-reads : goal.returns-clause-reads
returns-clause-reads g c =
    finds_row _ _ _ c.find.result _ c.requires.hall c.find.ensures.rested (unread (head_is c.args.id.now))
    (rw (c.params-to_sql.ensures, c.as_str.ensures.text) at c.find.ensures.found)
    (rw (c.params-to_sql.ensures, c.as_str.ensures.text) at c.find.ensures.cause)
    (λ found it opened has keyed. it.is ∙ head_found c.args.id.now _ (state g.S.Store c.find.new.conn) it.are.1.rows
    it.records has it.are.1.shown it.are.1.reads it.few)

pub returns-clause-alone : goal.returns-clause-alone
returns-clause-alone g c clean =
    let old = state g.S.Store c.args.conn.now in
    let new = state g.S.Store c.find.new.conn in
    let rested = c.find.ensures.rested in
    let was : HasCleanDisk old = omega (arith, rested.follows.lasts.clean, clean) in
    IfOk-weaker c.find.result (IsFound round_in HEAD.now (Text c.args.id.now ∷ []) old new) _ (λ found it.
    let has : IsHallSchema old.now.schema = (c.requires.hall.settled was (rested.follows.opened clean it.are.0)).1 in
    head_stays c.args.id.now old new found (rested.same clean it.are.0)
    (head_alone c.args.id.now old new it.are.1.rows it.records found has it.are.1.shown it.are.1.reads it.few it.is))
    ((rw (c.params-to_sql.ensures, c.as_str.ensures.text) at c.find.ensures.found) clean)
