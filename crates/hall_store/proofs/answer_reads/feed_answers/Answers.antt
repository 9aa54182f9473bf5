use Rattle.std.proofs.lemmas.Result.{IfOk-from_err}
use Rattle.std.proofs.Common.{◌≡◌, ◌∷◌, Bool, true, List, ap, ◌∙◌, rules}
use Rattle.std.specs.List.{filter, take_while}
use Rattle.std.specs.Map.{values_of}
use Rattle.hall_policy.specs.declared.record.AnswerRow.{AnswerRow}
use Rattle.hall_store.specs.Keyed.{is_inside}
use Rattle.hall_store.specs.Store.{is_after, is_between}
use Rattle.hall_store.specs.declared.slot.AnswerSlot.{AnswerSlot}
use Rattle.hall_store.proofs.Feeds.{feeding_begun, feeding_on, feeding_stopped}
use Rattle.hall_store.proofs.Firsts.{answers_among}
use Rattle.hall_store.proofs.Ranges.{kept_first, taken}
use Rattle.hall_store.proofs.answer_reads.feed_answers.Goals as goal

pub loop-slot-init : goal.loop-slot-init
loop-slot-init g c =
    let after = c.args.after.now in
    let inside : AnswerSlot × AnswerRow → Bool = λ e. is_inside c.args.first.now.round c.args.last.now e.0 in
    let asked : AnswerSlot × AnswerRow → Bool = λ e. is_after after e.0.entrant in
    let es : List (AnswerSlot × AnswerRow) = c.args.answers.now.entries in
    feeding_begun c.args.sink.now (filter (is_between c.args.first.now.round after c.args.last.now) (values_of es))
    (values_of (filter asked (take_while inside c.into_iter-slot-iterator.result)))
    (answers_among c.args.first.now after c.args.last.now c.requires.first es c.range-slot-items.ensures.ordered
    c.requires.kept c.into_iter-slot-iterator.result
    (c.into_iter-slot-iterator.ensures.into_iter_gives ∙ c.range-slot-items.ensures.between tt))

-- one that is inside and asked for is taken with the rest
next_taken : (inside asked : AnswerSlot × AnswerRow → Bool) (left rest : List (AnswerSlot × AnswerRow))
    (entry : AnswerSlot × AnswerRow) → left ≡ entry ∷ rest → inside entry ≡ true → asked entry ≡ true
    → values_of (filter asked (take_while inside left))
    ≡ entry.1 ∷ values_of (filter asked (take_while inside rest))
next_taken inside asked left rest entry is within wanted =
    ap (λ (es : List (AnswerSlot × AnswerRow)). values_of (filter asked es))
    (ap (take_while inside) is ∙ taken inside entry rest within)
    ∙ ap values_of (kept_first asked entry (take_while inside rest) wanted)

pub loop-slot-preserved : goal.loop-slot-preserved
loop-slot-preserved g c =
    let inside : AnswerSlot × AnswerRow → Bool = λ e. is_inside c.args.first.now.round c.args.last.now e.0 in
    let asked : AnswerSlot × AnswerRow → Bool = λ e. is_after c.args.after.now e.0.entrant in
    let es : List (AnswerSlot × AnswerRow) = c.args.answers.now.entries in
    let entry : AnswerSlot × AnswerRow = (c.in-Some.slot.now, c.in-Some.row.now) in
    let rest : List (AnswerSlot × AnswerRow) = c.next.new.self in
    let within : inside entry ≡ true = search rules in
    let wanted : asked entry ≡ true = search rules in
    feeding_on c.args.sink.now c.loop-slot.sink c.take.new.self
    (filter (is_between c.args.first.now.round c.args.after.now c.args.last.now) (values_of es))
    (values_of (filter asked (take_while inside c.loop-slot.slot-iterator)))
    (values_of (filter asked (take_while inside rest))) entry.1
    (next_taken inside asked c.loop-slot.slot-iterator rest entry c.in-Some.ensures.steps within wanted)
    c.loop-slot.invariant c.in_ok-take.ensures.took

pub returns-in_err-take-clause-stopped : goal.returns-in_err-take-clause-stopped
returns-in_err-take-clause-stopped g c =
    let inside : AnswerSlot × AnswerRow → Bool = λ e. is_inside c.args.first.now.round c.args.last.now e.0 in
    let asked : AnswerSlot × AnswerRow → Bool = λ e. is_after c.args.after.now e.0.entrant in
    let es : List (AnswerSlot × AnswerRow) = c.args.answers.now.entries in
    let entry : AnswerSlot × AnswerRow = (c.in-Some.slot.now, c.in-Some.row.now) in
    let rest : List (AnswerSlot × AnswerRow) = c.next.new.self in
    let within : inside entry ≡ true = search rules in
    let wanted : asked entry ≡ true = search rules in
    feeding_stopped g.K.Sink.refuses c.args.sink.now c.loop-slot.sink c.take.new.self
    (filter (is_between c.args.first.now.round c.args.after.now c.args.last.now) (values_of es))
    (values_of (filter asked (take_while inside c.loop-slot.slot-iterator)))
    (values_of (filter asked (take_while inside rest))) entry.1 c.in_err-take.field-0.0 c.from_residual.result
    (next_taken inside asked c.loop-slot.slot-iterator rest entry c.in-Some.ensures.steps within wanted)
    c.loop-slot.invariant c.in_err-take.ensures.same c.in_err-take.ensures.refused c.from_residual.ensures.1

pub returns-in_err-take-clause-fed : goal.returns-in_err-take-clause-fed
returns-in_err-take-clause-fed g c = IfOk-from_err c.from_residual.result _ c.from_residual.ensures.0
