use Rattle.std.proofs.Common.{◌∙◌, inl, inr, [], ◌∷◌, length, ◌≤◌, arith}
use Rattle.std.proofs.lemmas.Result.{IfOk-weaker, IfErr-weaker}
use Rattle.sqlite.specs.Held.{state}
use Rattle.hall_sql.proofs.PeopleTexts.{person_is}
use Rattle.hall_sql.proofs.PeopleLemmas.{person_found}
use Rattle.hall_sql.proofs.InsideLemmas.{shown_did}
use Rattle.sqlite.specs.declared.types.Value.TheVariants.{Text}
use Rattle.hall_sql.specs.declared.people.TheConstants.{PERSON}
use Rattle.hall_store.proofs.Knowing.{fails_as}
use Rattle.hall_sql.proofs.FoundLemmas.{length_read}
use Rattle.hall_sql.specs.Rows.{person_in}
use Rattle.hall_sql.proofs.UnreadRows.{person_one}
use Rattle.hall_sql.proofs.WriteCauseLemmas.{asked_inside}
use Rattle.hall_sql.proofs.Queries.{asked}
use Rattle.hall_sql.proofs.people.person_in.Goals as goal

pub returns-clause-done : goal.returns-clause-done
returns-clause-done g c clean inside =
    let old = state g.S.Store c.args.tx.now.conn.now in
    let new = state g.S.Store c.ask_in.new.tx.conn.now in
    let shown = rw (c.params-to_sql.ensures, c.as_str.ensures.text) at (c.in_ok-rows.ensures.shown clean) in
    IfOk-weaker c.at_most_one.result _ _
    (λ o h. shown_did _ _ _ old new c.in_ok-rows.rows.items inside (λ u. (person_is c.args.name.now u).plain) shown
    (λ it. h.1 ∙ person_found c.args.name.now old new c.in_ok-rows.rows.items c.in_ok-read_all.field-0.items it.schema
    shown
    (rw c.deref.ensures.value at c.in_ok-read_all.ensures.all) h.0))
    c.at_most_one.ensures.one

pub returns-in_err-rows-clause-cause : goal.returns-in_err-rows-clause-cause
returns-in_err-rows-clause-cause g c clean goes =
    fails_as c.from_residual.result _ _ c.from_residual.ensures.1 (λ failed.
    inl (asked_inside PERSON.now (Text c.args.name.now ∷ []) (state g.S.Store c.args.tx.now.conn.now)
    (state g.S.Store c.ask_in.new.tx.conn.now) (asked (person_is c.args.name.now)) goes
    (rw (c.params-to_sql.ensures, c.as_str.ensures.text) at (c.in_err-rows.ensures.cause clean failed))))

pub returns-in_err-read_all-clause-cause : goal.returns-in_err-read_all-clause-cause
returns-in_err-read_all-clause-cause g c clean goes =
    let shown = rw (c.params-to_sql.ensures, c.as_str.ensures.text) at (c.in_ok-rows.ensures.shown clean) in
    fails_as c.from_residual-in_err-read_all.result _ _ c.from_residual-in_err-read_all.ensures.1 (λ failed.
    inr (c.in_ok-rows.rows.items, shown, rw c.deref.ensures.value at (c.in_err-read_all.ensures.unread failed)))

pub returns-clause-cause : goal.returns-clause-cause
returns-clause-cause g c clean goes =
    let shown = rw (c.params-to_sql.ensures, c.as_str.ensures.text) at (c.in_ok-rows.ensures.shown clean) in
    let reads = rw c.deref.ensures.value at c.in_ok-read_all.ensures.all in
    let same = length_read person_in c.in_ok-rows.rows.items c.in_ok-read_all.field-0.items reads in
    IfErr-weaker c.at_most_one.result _ _ (λ fault long failed.
    let few : length c.in_ok-rows.rows.items ≤ 1 = person_one c.args.name.now (state g.S.Store c.args.tx.now.conn.now)
    (state g.S.Store c.ask_in.new.tx.conn.now) c.in_ok-rows.rows.items goes.hall goes.sound shown in
    absurd (omega (arith, same, long, few)))
    c.at_most_one.ensures.more
