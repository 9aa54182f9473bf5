use Rattle.std.proofs.Common.{arith}
use Rattle.sqlite.specs.Held.{state}
use Rattle.sqlite.specs.State.{HasCleanDisk}
use Rattle.hall_sql.specs.Fill.{AddsAnswer, AddsHead, AddsPlace, AddsPuzzle, PutsPerson}
use Rattle.hall_sql.specs.FillCause.{AnswersAreRefused, HeadsAreRefused, PlacesAreRefused, ProtestsAreRefused}
use Rattle.hall_sql.specs.FillCause.{PuzzlesAreRefused, RowsAreRefused}
use Rattle.hall_store.proofs.Knowing.{fails_as}
use Rattle.hall_sql.proofs.FillCauseLemmas.{added_next, added_none, by_first}
use Rattle.hall_sql.proofs.FillLemmas.{six_added}
use Rattle.hall_sql.proofs.fill.fill_inside.Goals as goal

pub returns-clause-done : goal.returns-clause-done
returns-clause-done g c clean inside =
    let one = rw c.as_slice.ensures.value at c.in_ok-add_each.ensures in
    let two = rw c.as_slice-2.ensures.value at c.in_ok-add_each-2.ensures in
    let three = rw c.as_slice-3.ensures.value at c.in_ok-add_each-3.ensures in
    let four = rw c.as_slice-4.ensures.value at c.in_ok-add_each-4.ensures in
    let five = rw c.as_slice-5.ensures.value at c.in_ok-add_each-5.ensures in
    let six = rw c.as_slice-6.ensures.value at c.in_ok-add_each-6.ensures in
    let at_five : HasCleanDisk (state g.S.Store c.add_each-5.new.tx.conn.now) = omega
    (arith, six.carries.lasts.clean, clean) in
    let at_four : HasCleanDisk (state g.S.Store c.add_each-4.new.tx.conn.now) = omega
    (arith, five.carries.lasts.clean, at_five) in
    let at_three : HasCleanDisk (state g.S.Store c.add_each-3.new.tx.conn.now) = omega
    (arith, four.carries.lasts.clean, at_four) in
    let at_two : HasCleanDisk (state g.S.Store c.add_each-2.new.tx.conn.now) = omega
    (arith, three.carries.lasts.clean, at_three) in
    let at_one : HasCleanDisk (state g.S.Store c.add_each.new.tx.conn.now) = omega
    (arith, two.carries.lasts.clean, at_two) in
    let people = one.done at_one inside in
    let puzzles = two.done at_two people.steps.mode in
    let heads = three.done at_three puzzles.steps.mode in
    let places = four.done at_four heads.steps.mode in
    let answers = five.done at_five places.steps.mode in
    six_added c.args.rows.now _ _ _ _ _ _ _ people puzzles heads places answers (six.done clean answers.steps.mode)

pub returns-in_err-add_each-clause-cause : goal.returns-in_err-add_each-clause-cause
returns-in_err-add_each-clause-cause g c clean goes =
    let rows = c.args.rows.now in
    let r0 = added_none (RowsAreRefused rows) (state g.S.Store c.args.tx.now.conn.now) in
    let it = rw c.as_slice.ensures.value at c.in_err-add_each.ensures in
    fails_as c.from_residual.result _ _ c.from_residual.ensures.1
    (λ failed. r0.later _ clean it.carries.lasts (λ on. by_first (it.cause clean on failed)) goes)

pub returns-in_err-add_each-2-clause-cause : goal.returns-in_err-add_each-2-clause-cause
returns-in_err-add_each-2-clause-cause g c clean goes =
    let rows = c.args.rows.now in
    let r0 = added_none (RowsAreRefused rows) (state g.S.Store c.args.tx.now.conn.now) in
    let i1 = rw c.as_slice.ensures.value at c.in_ok-add_each.ensures in
    let r1 = added_next PutsPerson (PuzzlesAreRefused rows) rows.people.items r0 i1.carries i1.done in
    let it = rw c.as_slice-2.ensures.value at c.in_err-add_each-2.ensures in
    fails_as c.from_residual-in_err-add_each-2.result _ _ c.from_residual-in_err-add_each-2.ensures.1
    (λ failed. r1.later _ clean it.carries.lasts (λ on. by_first (it.cause clean on failed)) goes)

pub returns-in_err-add_each-3-clause-cause : goal.returns-in_err-add_each-3-clause-cause
returns-in_err-add_each-3-clause-cause g c clean goes =
    let rows = c.args.rows.now in
    let r0 = added_none (RowsAreRefused rows) (state g.S.Store c.args.tx.now.conn.now) in
    let i1 = rw c.as_slice.ensures.value at c.in_ok-add_each.ensures in
    let r1 = added_next PutsPerson (PuzzlesAreRefused rows) rows.people.items r0 i1.carries i1.done in
    let i2 = rw c.as_slice-2.ensures.value at c.in_ok-add_each-2.ensures in
    let r2 = added_next AddsPuzzle (HeadsAreRefused rows) rows.puzzles.items r1 i2.carries i2.done in
    let it = rw c.as_slice-3.ensures.value at c.in_err-add_each-3.ensures in
    fails_as c.from_residual-in_err-add_each-3.result _ _ c.from_residual-in_err-add_each-3.ensures.1
    (λ failed. r2.later _ clean it.carries.lasts (λ on. by_first (it.cause clean on failed)) goes)

pub returns-in_err-add_each-4-clause-cause : goal.returns-in_err-add_each-4-clause-cause
returns-in_err-add_each-4-clause-cause g c clean goes =
    let rows = c.args.rows.now in
    let r0 = added_none (RowsAreRefused rows) (state g.S.Store c.args.tx.now.conn.now) in
    let i1 = rw c.as_slice.ensures.value at c.in_ok-add_each.ensures in
    let r1 = added_next PutsPerson (PuzzlesAreRefused rows) rows.people.items r0 i1.carries i1.done in
    let i2 = rw c.as_slice-2.ensures.value at c.in_ok-add_each-2.ensures in
    let r2 = added_next AddsPuzzle (HeadsAreRefused rows) rows.puzzles.items r1 i2.carries i2.done in
    let i3 = rw c.as_slice-3.ensures.value at c.in_ok-add_each-3.ensures in
    let r3 = added_next AddsHead (PlacesAreRefused rows) rows.heads.items r2 i3.carries i3.done in
    let it = rw c.as_slice-4.ensures.value at c.in_err-add_each-4.ensures in
    fails_as c.from_residual-in_err-add_each-4.result _ _ c.from_residual-in_err-add_each-4.ensures.1
    (λ failed. r3.later _ clean it.carries.lasts (λ on. by_first (it.cause clean on failed)) goes)

pub returns-in_err-add_each-5-clause-cause : goal.returns-in_err-add_each-5-clause-cause
returns-in_err-add_each-5-clause-cause g c clean goes =
    let rows = c.args.rows.now in
    let r0 = added_none (RowsAreRefused rows) (state g.S.Store c.args.tx.now.conn.now) in
    let i1 = rw c.as_slice.ensures.value at c.in_ok-add_each.ensures in
    let r1 = added_next PutsPerson (PuzzlesAreRefused rows) rows.people.items r0 i1.carries i1.done in
    let i2 = rw c.as_slice-2.ensures.value at c.in_ok-add_each-2.ensures in
    let r2 = added_next AddsPuzzle (HeadsAreRefused rows) rows.puzzles.items r1 i2.carries i2.done in
    let i3 = rw c.as_slice-3.ensures.value at c.in_ok-add_each-3.ensures in
    let r3 = added_next AddsHead (PlacesAreRefused rows) rows.heads.items r2 i3.carries i3.done in
    let i4 = rw c.as_slice-4.ensures.value at c.in_ok-add_each-4.ensures in
    let r4 = added_next AddsPlace (AnswersAreRefused rows) rows.places.items r3 i4.carries i4.done in
    let it = rw c.as_slice-5.ensures.value at c.in_err-add_each-5.ensures in
    fails_as c.from_residual-in_err-add_each-5.result _ _ c.from_residual-in_err-add_each-5.ensures.1
    (λ failed. r4.later _ clean it.carries.lasts (λ on. by_first (it.cause clean on failed)) goes)

pub returns-in_err-add_each-6-clause-cause : goal.returns-in_err-add_each-6-clause-cause
returns-in_err-add_each-6-clause-cause g c clean goes =
    let rows = c.args.rows.now in
    let r0 = added_none (RowsAreRefused rows) (state g.S.Store c.args.tx.now.conn.now) in
    let i1 = rw c.as_slice.ensures.value at c.in_ok-add_each.ensures in
    let r1 = added_next PutsPerson (PuzzlesAreRefused rows) rows.people.items r0 i1.carries i1.done in
    let i2 = rw c.as_slice-2.ensures.value at c.in_ok-add_each-2.ensures in
    let r2 = added_next AddsPuzzle (HeadsAreRefused rows) rows.puzzles.items r1 i2.carries i2.done in
    let i3 = rw c.as_slice-3.ensures.value at c.in_ok-add_each-3.ensures in
    let r3 = added_next AddsHead (PlacesAreRefused rows) rows.heads.items r2 i3.carries i3.done in
    let i4 = rw c.as_slice-4.ensures.value at c.in_ok-add_each-4.ensures in
    let r4 = added_next AddsPlace (AnswersAreRefused rows) rows.places.items r3 i4.carries i4.done in
    let i5 = rw c.as_slice-5.ensures.value at c.in_ok-add_each-5.ensures in
    let r5 = added_next AddsAnswer (ProtestsAreRefused rows) rows.answers.items r4 i5.carries i5.done in
    let it = rw c.as_slice-6.ensures.value at c.in_err-add_each-6.ensures in
    fails_as c.from_residual-in_err-add_each-6.result _ _ c.from_residual-in_err-add_each-6.ensures.1
    (λ failed. r5.later _ clean it.carries.lasts (λ on. it.cause clean on failed) goes)
