use Rattle.std.proofs.Common.{◌≡◌, ◌∷◌, List, Bool, true, false, length, ap, sym, ◌∙◌, zero-add, arith, rules}
use Rattle.std.specs.List.{take_while}
use Rattle.std.specs.Map.{values_of}
use Rattle.std.proofs.lemmas.List.Sums.{length-filter}
use Rattle.hall_policy.specs.declared.record.PuzzleRow.{PuzzleRow}
use Rattle.hall_policy.specs.World.{same_text}
use Rattle.hall_policy.specs.declared.record.PuzzleKey.{PuzzleKey}
use Rattle.hall_store.proofs.Firsts.{puzzles_together}
use Rattle.hall_store.proofs.Ranges.{taken, left, length-values}
use Rattle.hall_store.proofs.map_reads.count_puzzles.Goals as goal

pub loop-key-init : goal.loop-key-init
loop-key-init c =
    let test : PuzzleKey × PuzzleRow → Bool = λ e. same_text e.0.author c.args.first.now.author in
    let ours : PuzzleRow → Bool = λ row. same_text row.key.author c.args.first.now.author in
    let from = c.into_iter-key-iterator.ensures.into_iter_gives ∙ c.range-key-items.ensures.between tt in
    let small = c.range-key-items.ensures.fits in
    record {
      all =
          sym (length-filter ours (values_of c.args.puzzles.now.entries))
          ∙ ap length (puzzles_together c.args.first.now c.requires.first c.args.puzzles.now.entries
          c.range-key-items.ensures.ordered c.requires.kept)
          ∙ ap (λ (es : List (PuzzleKey × PuzzleRow)). length (values_of (take_while test es))) (sym from)
          ∙ length-values (take_while test c.into_iter-key-iterator.result)
          ∙ sym (zero-add (length (take_while test c.into_iter-key-iterator.result)));
      fits = search rules;
    }

pub loop-key-preserved : goal.loop-key-preserved
loop-key-preserved c =
    let test : PuzzleKey × PuzzleRow → Bool = λ e. same_text e.0.author c.args.first.now.author in
    let entry : PuzzleKey × PuzzleRow = (c.in-Some.key.now, c.in-Some.field-0-1.now) in
    let rest : List (PuzzleKey × PuzzleRow) = c.next.new.self in
    let passes : test entry ≡ true = search rules in
    let more : length (take_while test c.loop-key.key-iterator) ≡ length (entry ∷ take_while test rest) = ap length
    (ap (take_while test) c.in-Some.ensures.steps ∙ taken test entry rest passes) in
    let steps : length c.loop-key.key-iterator ≡ length (entry ∷ rest) = ap length c.in-Some.ensures.steps in
    record {
      all = c.loop-key.invariant.all ∙ omega (arith, more);
      fits = omega
          (arith, steps, c.loop-key.invariant.fits);
    }

pub returns-in-None-clause-count : goal.returns-in-None-clause-count
returns-in-None-clause-count c =
    let test : PuzzleKey × PuzzleRow → Bool = λ e. same_text e.0.author c.args.first.now.author in
    let none : length (take_while test c.loop-key.key-iterator) ≡ 0 = ap
    (λ (es : List (PuzzleKey × PuzzleRow)). length (take_while test es)) c.in-None.ensures.steps.0 in
    omega (arith, none, c.loop-key.invariant.all)

pub returns-then-ne-clause-count : goal.returns-then-ne-clause-count
returns-then-ne-clause-count c =
    let test : PuzzleKey × PuzzleRow → Bool = λ e. same_text e.0.author c.args.first.now.author in
    let entry : PuzzleKey × PuzzleRow = (c.in-Some.key.now, c.in-Some.field-0-1.now) in
    let fails : test entry ≡ false = search rules in
    let none : length (take_while test c.loop-key.key-iterator) ≡ 0 = ap length
    (ap (take_while test) c.in-Some.ensures.steps ∙ left test entry c.next.new.self fails) in
    omega (arith, none, c.loop-key.invariant.all)
