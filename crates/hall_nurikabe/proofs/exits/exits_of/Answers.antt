use Rattle.std.proofs.lemmas.Result.{IfOk-from_err}
use Rattle.std.proofs.Common.{◌≡◌, ℕ, Option, Some, None, true, length, arith, ◌∙◌}
use Rattle.std.specs.Option.{is_some}
use Rattle.hall_grid.proofs.Floods.{written}
use Rattle.hall_nurikabe.proofs.KnowsExits.{KnowsExits-skip, KnowsExits-add}
use Rattle.hall_nurikabe.proofs.exits.exits_of.Goals as goal
use Rattle.hall_nurikabe.proofs.exits.exits_of.Goals.{then-is_none, else-is_none}

taken : (o : Option ℕ) → o ≡ None → is_some o ≡ true → ⊥
taken None e h = absurd (cc)
taken (Some x) e h = absurd (cc)

pub loop-cell-preserved : goal.loop-cell-preserved
loop-cell-preserved c = elim c.if-is_none.branch [
  | then-is_none w ↦
      let whole : length w.add_exit.new.exits ≡ c.loop-cell.exits.len = omega
      (arith, w.add_exit.auto.exits, w.deref_mut.ensures.len) in
      rw (w.exits-is, written c.loop-cell.exits.len w.add_exit.new.exits c.loop-cell.exits.items whole)
      (KnowsExits-add c.args.position.now.puzzle.now.size c.args.position.now.partial.now.places c.args.labels.now
      c.loop-cell.cell c.loop-cell.exits.items w.add_exit.new.exits (omega arith)
      (rw w.deref_mut.ensures.value at w.add_exit.ensures.adds)
      (rw c.size-size.ensures.size at w.add_exit.ensures.beside) c.loop-cell.invariant)
  | else-is_none w ↦ rw w.exits-is (KnowsExits-skip _ _ _ _ _
      (λ unset. let some = w.if-is_none.ensures in absurd (taken c.get.result (c.get.ensures ∙ unset) some))
      c.loop-cell.invariant)
]

pub returns-in_err-exits : goal.returns-in_err-exits
returns-in_err-exits c = IfOk-from_err c.from_residual.result _ c.from_residual.ensures.0
