use Rattle.std.proofs.Common.{◌≡◌, ◌∷◌, List, Bool, true, false, length, ap, sym, ◌∙◌, zero-add, arith, rules}
use Rattle.std.specs.List.{take_while}
use Rattle.std.specs.Map.{values_of}
use Rattle.std.proofs.lemmas.List.Sums.{length-filter}
use Rattle.hall_policy.specs.declared.record.AnswerRow.{AnswerRow}
use Rattle.hall_store.specs.Keyed.{agree, slot_of}
use Rattle.hall_store.specs.declared.slot.AnswerSlot.{AnswerSlot}
use Rattle.hall_store.specs.declared.slot.Part.TheVariants.{Puzzle}
use Rattle.hall_store.proofs.Firsts.{answers_ahead}
use Rattle.hall_store.proofs.Ranges.{taken, left, length-values}
use Rattle.hall_store.proofs.answer_reads.count_answers.Goals as goal

pub loop-slot-init : goal.loop-slot-init
loop-slot-init c =
    let test : AnswerSlot × AnswerRow → Bool = λ e. agree Puzzle e.0 c.args.first.now in
    let ours : AnswerRow → Bool = λ row. agree Puzzle (slot_of row) c.args.first.now in
    let from = c.into_iter-slot-iterator.ensures.into_iter_gives ∙ c.range-slot-items.ensures.between tt in
    let small = c.range-slot-items.ensures.fits in
    record {
      all =
          sym (length-filter ours (values_of c.args.answers.now.entries))
          ∙ ap length (answers_ahead c.args.first.now Puzzle c.requires.first c.args.answers.now.entries
          c.range-slot-items.ensures.ordered c.requires.kept c.into_iter-slot-iterator.result from)
          ∙ length-values (take_while test c.into_iter-slot-iterator.result)
          ∙ sym (zero-add (length (take_while test c.into_iter-slot-iterator.result)));
      fits = search rules;
    }

pub loop-slot-preserved : goal.loop-slot-preserved
loop-slot-preserved c =
    let test : AnswerSlot × AnswerRow → Bool = λ e. agree Puzzle e.0 c.args.first.now in
    let entry : AnswerSlot × AnswerRow = (c.in-Some.slot.now, c.in-Some.field-0-1.now) in
    let rest : List (AnswerSlot × AnswerRow) = c.next.new.self in
    let passes : test entry ≡ true = search rules in
    let more : length (take_while test c.loop-slot.slot-iterator) ≡ length (entry ∷ take_while test rest) = ap length
    (ap (take_while test) c.in-Some.ensures.steps ∙ taken test entry rest passes) in
    let steps : length c.loop-slot.slot-iterator ≡ length (entry ∷ rest) = ap length c.in-Some.ensures.steps in
    record {
      all = c.loop-slot.invariant.all ∙ omega (arith, more);
      fits = omega
          (arith, steps, c.loop-slot.invariant.fits);
    }

pub returns-in-None-clause-count : goal.returns-in-None-clause-count
returns-in-None-clause-count c =
    let test : AnswerSlot × AnswerRow → Bool = λ e. agree Puzzle e.0 c.args.first.now in
    let none : length (take_while test c.loop-slot.slot-iterator) ≡ 0 = ap
    (λ (es : List (AnswerSlot × AnswerRow)). length (take_while test es)) c.in-None.ensures.steps.0 in
    omega (arith, none, c.loop-slot.invariant.all)

pub returns-then-not-agree-clause-count : goal.returns-then-not-agree-clause-count
returns-then-not-agree-clause-count c =
    let test : AnswerSlot × AnswerRow → Bool = λ e. agree Puzzle e.0 c.args.first.now in
    let entry : AnswerSlot × AnswerRow = (c.in-Some.slot.now, c.in-Some.field-0-1.now) in
    let fails : test entry ≡ false = search rules in
    let none : length (take_while test c.loop-slot.slot-iterator) ≡ 0 = ap length
    (ap (take_while test) c.in-Some.ensures.steps ∙ left test entry c.next.new.self fails) in
    omega (arith, none, c.loop-slot.invariant.all)
