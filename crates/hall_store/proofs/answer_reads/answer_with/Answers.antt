use Rattle.std.proofs.Common.{◌≡◌, Option, Some, Bool, true, false, cond, find, List, ap, sym, ◌∙◌, rules}
use Rattle.std.specs.List.{take_while}
use Rattle.std.specs.Map.{values_of}
use Rattle.hall_policy.specs.World.{same_text}
use Rattle.hall_policy.specs.declared.record.AnswerRow.{AnswerRow}
use Rattle.hall_store.specs.Keyed.{agree}
use Rattle.hall_store.specs.declared.slot.AnswerSlot.{AnswerSlot}
use Rattle.hall_store.specs.declared.slot.Part.TheVariants.{Puzzle}
use Rattle.hall_store.proofs.Firsts.{answers_ahead}
use Rattle.hall_store.proofs.Ranges.{taken}
use Rattle.hall_store.proofs.answer_reads.answer_with.Goals as goal

pub loop-slot-init : goal.loop-slot-init
loop-slot-init c =
    let one : List AnswerRow → Option AnswerRow = find (λ row. same_text row.key.token c.args.token.now) in
    ap one (answers_ahead c.args.first.now Puzzle c.requires.first c.args.answers.now.entries
    c.range-slot-items.ensures.ordered c.requires.kept
    c.into_iter-slot-iterator.result (c.into_iter-slot-iterator.ensures.into_iter_gives
    ∙ c.range-slot-items.ensures.between tt))

pub loop-slot-preserved : goal.loop-slot-preserved
loop-slot-preserved c =
    let test : AnswerSlot × AnswerRow → Bool = λ e. agree Puzzle e.0 c.args.first.now in
    let one : List AnswerRow → Option AnswerRow = find (λ row. same_text row.key.token c.args.token.now) in
    let entry : AnswerSlot × AnswerRow = (c.in-Some.slot.now, c.in-Some.row.now) in
    let rest : List (AnswerSlot × AnswerRow) = c.next.new.self in
    let passes : test entry ≡ true = search rules in
    let other : same_text entry.1.key.token c.args.token.now ≡ false = search rules in
    c.loop-slot.invariant
    ∙ ap (λ (es : List (AnswerSlot × AnswerRow)). one (values_of es))
    (ap (take_while test) c.in-Some.ensures.steps ∙ taken test entry rest passes)
    ∙ ap (λ b. cond b (Some entry.1) (one (values_of (take_while test rest)))) other

pub returns-then-eq : goal.returns-then-eq
returns-then-eq c =
    let test : AnswerSlot × AnswerRow → Bool = λ e. agree Puzzle e.0 c.args.first.now in
    let one : List AnswerRow → Option AnswerRow = find (λ row. same_text row.key.token c.args.token.now) in
    let entry : AnswerSlot × AnswerRow = (c.in-Some.slot.now, c.in-Some.row.now) in
    let rest : List (AnswerSlot × AnswerRow) = c.next.new.self in
    let passes : test entry ≡ true = search rules in
    let same : same_text entry.1.key.token c.args.token.now ≡ true = search rules in
    let cloned : c.in_ok-clone.field-0 ≡ entry.1 = search rules in
    ap Some cloned
    ∙ sym (c.loop-slot.invariant
    ∙ ap (λ (es : List (AnswerSlot × AnswerRow)). one (values_of es))
    (ap (take_while test) c.in-Some.ensures.steps ∙ taken test entry rest passes)
    ∙ ap (λ b. cond b (Some entry.1) (one (values_of (take_while test rest)))) same)
