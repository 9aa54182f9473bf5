use Rattle.std.proofs.Common.{not, int_lt, arith, rules}
use Rattle.std.proofs.lemmas.List.Sorted.{IsPartitionPoint-from_clause}
use Rattle.hall_score.proofs.Ranks.{parted, counted}
use Rattle.hall_score.proofs.ranking.rank_of.Goals as goal

pub returns : goal.returns
returns c =
    let total = c.args.total in
    let at = IsPartitionPoint-from_clause (λ y. not (int_lt total y)) c.args.rising.now c.partition_point.result
    c.partition_point.ensures.partitioned (parted total c.args.rising.now c.requires) (λ x b f' k. search rules) in
    let count = counted total c.args.rising.now c.partition_point.result c.partition_point.ensures.bound at in
    omega (arith, count)
