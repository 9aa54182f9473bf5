use Rattle.std.proofs.Common.{◌≡◌, ◌<◌, ℕ, Bool, length}
use Rattle.std.specs.Prelude.{All}
use Rattle.hall_slither.specs.Colour.{Obeys}
use Rattle.hall_slither.proofs.colour.Colours.start_over.Given as goal

abbrev pub invariant-loop-cell : goal.invariant-loop-cell
invariant-loop-cell l = record {
  exact : length l.self-inside.links.items ≡ l.cell;
  within : All (λ link. link.to < l.cell) l.self-inside.links.items;
  free : (colour : ℕ → Bool) → Obeys l.self-inside.links.items colour;
}
