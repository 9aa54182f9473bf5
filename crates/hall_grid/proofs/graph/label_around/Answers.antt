use Rattle.std.proofs.Common.{◌≡◌, take, Some, arith, inl, inr, sym, subst}
use Rattle.std.specs.Prelude.{Contains}
use Rattle.std.proofs.lemmas.List.{take_all}
use Rattle.hall_grid.specs.Component.{IsLabelled}
use Rattle.hall_grid.proofs.Labelling.{Labels-retarget, Labels-place, Labels-empty_place, place_in, AmongFirst}
use Rattle.hall_grid.proofs.graph.label_around.Goals as goal
use Rattle.hall_grid.proofs.graph.label_around.Goals.{in-Some+in_ok-label_node, in_default}

pub label_node-requires-clause-node : goal.label_node-requires-clause-node
label_node-requires-clause-node g c =
    c.next_to-place-items.ensures.below c.in-Some.other
    (place_in c.next_to-place-items.result c.loop-place.place-index _ _ (omega arith) c.in-Some.is)

pub loop-place-preserved : goal.loop-place-preserved
loop-place-preserved g c = elim c.match-place.branch [
  | in-Some+in_ok-label_node w ↦
      rw (w.labels-is, w.stack-is)
      (Labels-place _ _ c.next_to-place-items.result c.loop-place.place-index _
      (omega arith) _ _ _ _ _ _ w.in-Some.other w.in-Some.is
      c.loop-place.invariant w.in_ok-label_node.ensures)
  | in_default w ↦
      rw (w.labels-is, w.stack-is)
      (Labels-empty_place _ _ c.next_to-place-items.result c.loop-place.place-index _
      (omega arith) _ _ _ _ w.in_default.not-Some c.loop-place.invariant)
]

pub returns : goal.returns
returns g c =
    let all : take c.loop-place.place-index c.next_to-place-items.result ≡ c.next_to-place-items.result =
    take_all _ _ (omega arith) in
    Labels-retarget (AmongFirst c.next_to-place-items.result c.loop-place.place-index) _ _ _ _ _ _ _
    (λ x h. c.next_to-place-items.ensures.next x (subst (λ l. Contains l (Some x)) all h))
    (λ x n m. elim (c.next_to-place-items.ensures.all x n m) [
      | inl e ↦ inr (c.args.label, subst (λ x. IsLabelled c.args.labels.now x c.args.label) (sym e) c.requires.labelled)
      | inr k ↦ inl (subst (λ l. Contains l (Some x)) (sym all) k)
    ])
    c.loop-place.invariant
