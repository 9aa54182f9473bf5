use Rattle.std.proofs.Common.{◌≡◌, ◌≢◌, ℕ, ◌<◌, None, get_or}
use Rattle.hall_solve.specs.Question.{Narrows}
use Rattle.hall_solve.specs.Deduction.{IsDeduced}
use Rattle.hall_solve.specs.Trail.{Grows}
use Rattle.hall_solve.specs.declared.deduce.Pass.TheVariants.{Settled, Dead}
use Rattle.hall_sudoku.specs.Units.{units_question}
use Rattle.hall_sudoku.specs.Candidates.{HasNoSole}
use Rattle.hall_sudoku.proofs.singles.set_soles.Given as goal

abbrev pub invariant-loop-cell : goal.invariant-loop-cell
invariant-loop-cell l = record {
  narrows : Narrows (units_question l.units) l.fn.partial.places l.partial.places;
  deduced : IsDeduced (units_question l.units) l.fn.partial.places l.partial.places l.pass;
  grows : Grows l.fn.partial l.partial;
  alive : l.pass ≢ Dead;
  settled : l.pass ≡ Settled → (c : ℕ) → c < l.cell → get_or l.fn.partial.places c None ≡ None
      → HasNoSole l.units l.candidates l.shared c;
}
