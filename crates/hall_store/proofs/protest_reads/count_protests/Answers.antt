use Rattle.std.proofs.Common.{◌≡◌, ◌∷◌, List, Bool, true, false, length, ap, sym, ◌∙◌, zero-add, arith, rules}
use Rattle.std.specs.List.{take_while}
use Rattle.std.specs.Map.{values_of}
use Rattle.std.proofs.lemmas.List.Sums.{length-filter}
use Rattle.hall_policy.specs.declared.record.ProtestKey.{ProtestKey}
use Rattle.hall_policy.specs.declared.record.ProtestRow.{ProtestRow}
use Rattle.hall_store.specs.Store.{is_protest_of}
use Rattle.hall_store.proofs.Firsts.{is_beside, protests_together}
use Rattle.hall_store.proofs.Ranges.{taken, left, length-values}
use Rattle.hall_store.proofs.protest_reads.count_protests.Goals as goal

pub loop-key-init : goal.loop-key-init
loop-key-init c =
    let test : ProtestKey × ProtestRow → Bool = λ e. is_beside c.args.first.now e.0 in
    let ours : ProtestRow → Bool = is_protest_of c.args.first.now.entrant c.args.first.now.round in
    let from = c.into_iter-key-iterator.ensures.into_iter_gives ∙ c.range-key-items.ensures.between tt in
    let small = c.range-key-items.ensures.fits in
    record {
      all =
          sym (length-filter ours (values_of c.args.protests.now.entries))
          ∙ ap length (protests_together c.args.first.now c.requires.first c.args.protests.now.entries
          c.range-key-items.ensures.ordered c.requires.kept)
          ∙ ap (λ (es : List (ProtestKey × ProtestRow)). length (values_of (take_while test es))) (sym from)
          ∙ length-values (take_while test c.into_iter-key-iterator.result)
          ∙ sym (zero-add (length (take_while test c.into_iter-key-iterator.result)));
      fits = search rules;
    }

pub loop-key-preserved : goal.loop-key-preserved
loop-key-preserved c =
    let test : ProtestKey × ProtestRow → Bool = λ e. is_beside c.args.first.now e.0 in
    let entry : ProtestKey × ProtestRow = (c.in-Some.key.now, c.in-Some.field-0-1.now) in
    let rest : List (ProtestKey × ProtestRow) = c.next.new.self in
    let passes : test entry ≡ true = search rules in
    let more : length (take_while test c.loop-key.key-iterator) ≡ length (entry ∷ take_while test rest) = ap length
    (ap (take_while test) c.in-Some.ensures.steps ∙ taken test entry rest passes) in
    let steps : length c.loop-key.key-iterator ≡ length (entry ∷ rest) = ap length c.in-Some.ensures.steps in
    record {
      all = c.loop-key.invariant.all ∙ omega (arith, more);
      fits = omega
          (arith, steps, c.loop-key.invariant.fits);
    }

pub returns-in-None-clause-count : goal.returns-in-None-clause-count
returns-in-None-clause-count c =
    let test : ProtestKey × ProtestRow → Bool = λ e. is_beside c.args.first.now e.0 in
    let none : length (take_while test c.loop-key.key-iterator) ≡ 0 = ap
    (λ (es : List (ProtestKey × ProtestRow)). length (take_while test es)) c.in-None.ensures.steps.0 in
    omega (arith, none, c.loop-key.invariant.all)

pub returns-then-not-is_beside-clause-count : goal.returns-then-not-is_beside-clause-count
returns-then-not-is_beside-clause-count c =
    let test : ProtestKey × ProtestRow → Bool = λ e. is_beside c.args.first.now e.0 in
    let entry : ProtestKey × ProtestRow = (c.in-Some.key.now, c.in-Some.field-0-1.now) in
    let fails : test entry ≡ false = search rules in
    let none : length (take_while test c.loop-key.key-iterator) ≡ 0 = ap length
    (ap (take_while test) c.in-Some.ensures.steps ∙ left test entry c.next.new.self fails) in
    omega (arith, none, c.loop-key.invariant.all)
