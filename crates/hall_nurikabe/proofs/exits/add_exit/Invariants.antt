use Rattle.std.proofs.Common.{ℕ, get_or}
use Rattle.hall_grid.specs.Component.{IsLabelled}
use Rattle.hall_grid.proofs.Labelling.{AmongFirst}
use Rattle.hall_nurikabe.specs.declared.exits.Exits.TheVariants.{Nowhere}
use Rattle.hall_nurikabe.specs.Exit.{AddsExit, Covers}
use Rattle.hall_nurikabe.proofs.exits.add_exit.Given as goal

abbrev pub invariant-loop-place : goal.invariant-loop-place
invariant-loop-place l = record {
  adds : AddsExit l.cell l.fn.exits l.exits;
  beside : (other label : ℕ) → AmongFirst l.place-items l.place-index other → IsLabelled l.labels other label
      → Covers (get_or l.exits label Nowhere) l.cell;
}
