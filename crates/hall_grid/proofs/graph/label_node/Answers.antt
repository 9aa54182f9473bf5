use Rattle.std.proofs.Common.{◌≡◌, true, false, sym, subst, arith}
use Rattle.hall_grid.specs.Component.{IsLabelled}
use Rattle.hall_grid.proofs.Labelling.{Labels-one, Labels-none, if_none, if_some}
use Rattle.hall_grid.proofs.graph.label_node.Goals as goal
use Rattle.hall_grid.proofs.graph.label_node.Goals.{else-is_none-via-then-is_none+else-is_member}
use Rattle.hall_grid.proofs.graph.label_node.Goals.{else-is_none-via-else-is_none}

pub returns-in_ok-push : goal.returns-in_ok-push
returns-in_ok-push g c =
    rw c.in_ok-push.ensures.items
    (Labels-one _ _ _ _ c.args.node (omega arith) (c.is_member.ensures.0 c.if-is_member.true)
    (if_none _ c.is_none.result c.is_none.ensures c.if-is_none.true))

pub returns-else-is_none : goal.returns-else-is_none
returns-else-is_none g c =
    Labels-none _ _ _ _ _ (λ a e m. elim c.else-is_none.branch [
      | else-is_none-via-then-is_none+else-is_member w ↦
          let yes : w.is_member.result ≡ true =
          w.is_member.ensures.1 (subst (g.G.Graph.IsMember c.args.graph.now) e m) in
          let no : w.is_member.result ≡ false = w.if-is_member.false in
          absurd (cc)
      | else-is_none-via-else-is_none w ↦
          let k = if_some _ c.is_none.result c.is_none.ensures w.if-is_none.false in
          (k.0, subst (λ a. IsLabelled c.args.labels.now a k.0) (sym e) k.1)
    ])
