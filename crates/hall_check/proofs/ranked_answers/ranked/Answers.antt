use Rattle.std.proofs.Common.{◌∙◌, Bor, map, subst, rules}
use Rattle.std.specs.List.Sorted.{IsPermutation}
use Rattle.std.specs.Ordering.{is_lt}
use Rattle.std.proofs.lemmas.List.{take_all}
use Rattle.std.proofs.lemmas.List.Sorted.{IsPermutation-map, answers_always, ranks_by}
use Rattle.hall_policy.specs.declared.record.AnswerRow.{AnswerRow}
use Rattle.hall_check.specs.Groups.{with_number_cmp}
use Rattle.hall_check.proofs.Ranked.{with_number_total}
use Rattle.hall_check.proofs.ranked_answers.ranked.Goals as goal

pub returns : goal.returns
returns c = record {
  moved = subst (λ rows. IsPermutation rows (map (λ row. row.now) c.sort_unstable_by.new.self.items))
      (c.loop-row.invariant ∙ take_all c.loop-row.row-index c.args.answers.now c.loop-row-test.false)
      (IsPermutation-map (λ row. row.now) c.loop-row.ranked.items c.sort_unstable_by.new.self.items
      c.sort_unstable_by.ensures.permutation);
  sorted = c.sort_unstable_by.ensures.sorted (λ a b. is_lt (with_number_cmp a.now b.now))
      (ranks_by with_number_total (λ (row : Bor AnswerRow). row.now))
      (answers_always _ _ _ (λ f a r f' k. search rules));
}
