use Rattle.std.proofs.Common.{◌<◌, ℕ}
use Rattle.std.specs.Prelude.{All, Contains}
use Rattle.hall_grid.specs.Slither.{dots}
use Rattle.hall_slither.specs.declared.count.Centre.TheVariants.{Dot, Cell}
use Rattle.hall_slither.specs.Count.{IsCentre}
use Rattle.hall_slither.proofs.follow.push_all.Given as goal

abbrev pub invariant-loop-dot : goal.invariant-loop-dot
invariant-loop-dot l = record {
  centres : All (IsCentre l.size) l.stack.items;
  dots_in : (d : ℕ) → d < l.dot → Contains l.stack.items (Dot d);
}

abbrev pub invariant-loop-cell : goal.invariant-loop-cell
invariant-loop-cell l = record {
  centres : All (IsCentre l.fn.size) l.stack.items;
  dots_in : (d : ℕ) → d < dots l.fn.size → Contains l.stack.items (Dot d);
  cells_in : (k : ℕ) → k < l.cell → Contains l.stack.items (Cell k);
}
