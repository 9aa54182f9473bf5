use Rattle.std.proofs.Common.{◌∙◌, Bor, not, rules}
use Rattle.std.specs.Ordering.{is_eq, is_gt, is_lt}
use Rattle.std.proofs.lemmas.List.Sorted.{IsPartitionPoint-from_clause}
use Rattle.hall_policy.specs.declared.record.AnswerRow.{AnswerRow}
use Rattle.hall_check.specs.Groups.{AreRanked, with_number_cmp}
use Rattle.hall_check.specs.Sentences.{is_numbered_alike}
use Rattle.hall_check.proofs.Counting.{same_count, tied_numbers}
use Rattle.hall_check.proofs.Ranked.{below, counted, with_number_total, up_to}
use Rattle.hall_check.proofs.counts.Asking.numbered_alike.Goals as goal

pub returns : goal.returns
returns c = λ able.
    let row = c.args.row.now in
    let ranked = c.as_slice-ranked.result.now in
    let answers = c.args.self.now.whole.now.answers.items in
    let are : AreRanked answers ranked = rw c.as_slice-ranked.ensures.value able.1.answers in
    let up = are.sorted in
    c.saturating_sub.ensures
    ∙ counted with_number_total ranked up row answers are.moved _ _
    c.partition_point-before.ensures.bound c.partition_point-until.ensures.bound
    (IsPartitionPoint-from_clause (λ (y : Bor AnswerRow). is_lt (with_number_cmp y.now row)) ranked
    c.partition_point-before.result c.partition_point-before.ensures.partitioned (below with_number_total ranked up row)
    (λ a b f k. search rules))
    (IsPartitionPoint-from_clause (λ (y : Bor AnswerRow). not (is_gt (with_number_cmp y.now row))) ranked
    c.partition_point-until.result c.partition_point-until.ensures.partitioned (up_to with_number_total ranked up row)
    (λ a b f k. search rules))
    ∙ same_count (λ other. is_eq (with_number_cmp row other)) (is_numbered_alike row)
    (tied_numbers row) able.0.answers
