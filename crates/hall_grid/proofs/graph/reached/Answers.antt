use Rattle.std.proofs.Common.{◌≡◌, length, map, arith, rules, replicate, None}
use Rattle.std.specs.Option.{is_some}
use Rattle.std.proofs.lemmas.Result.{IfOk-weaker}
use Rattle.hall_grid.proofs.Floods.{IsReach-from_Floods, written}
use Rattle.hall_grid.proofs.graph.reached.Goals as goal

pub returns : goal.returns
returns g c =
    let whole : length c.flood.new.labels ≡ c.in_ok-labels.labels.len =
    omega (arith, c.flood.auto.labels, c.deref_mut.ensures.len) in
    let none : c.in_ok-labels.labels.items ≡ replicate c.nodes.result None = search rules in
    let all = IsReach-from_Floods _ _ _ _ _ _ (rw (c.deref_mut.ensures.value, none) at c.in_ok-flood.ensures.floods) in
    IfOk-weaker c.labelled.result (λ marks. marks.items ≡ map is_some c.deref.result.now) _
    (λ marks e. rw (
      e,
      c.deref.ensures.value,
      written c.in_ok-labels.labels.len c.flood.new.labels c.in_ok-labels.labels.items whole,
    ) all)
    c.labelled.ensures
