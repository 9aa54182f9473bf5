use Rattle.std.proofs.Common.{◌<◌, ℕ, Bool, length}
use Rattle.hall_slither.specs.Colour.{Obeys, AreTurned}
use Rattle.hall_slither.proofs.colour.Colours.root_of.Given as goal

abbrev pub invariant-loop : goal.invariant-loop
invariant-loop l = record {
  within : l.at < length l.self;
  turned : (colour : ℕ → Bool) → Obeys l.self colour → AreTurned l.differs l.cell l.at colour;
}
