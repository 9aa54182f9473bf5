use Rattle.hall_grid.proofs.NameSets.{Adds-bit, Adds-nothing}
use Rattle.hall_grid.proofs.rule.Broken.insert_if.Goals as goal
use Rattle.hall_grid.proofs.rule.Broken.insert_if.Goals.{then-holds, else-holds}

pub returns : goal.returns
returns c = elim c.if-holds.branch [
  | then-holds w ↦
      rw (← c.self.view_is, w.added-is, w.place.ensures.place)
      (Adds-bit _ c.args.rule _ c.self.invariant w.if-holds.true)
  | else-holds w ↦ rw (← c.self.view_is, w.added-is) (Adds-nothing _ c.args.rule _ c.self.invariant w.if-holds.false)
]
