use Rattle.std.proofs.Common.{sym, subst}
use Rattle.hall_solve.specs.Deduction.{IsDeduced}
use Rattle.hall_solve.specs.declared.deduce.Pass.{Pass}
use Rattle.hall_sudoku.specs.Units.{units_question}
use Rattle.hall_sudoku.specs.Settled.{IsBoardSettled}
use Rattle.hall_sudoku.proofs.Settled.{settled_of}
use Rattle.hall_sudoku.proofs.singles.soles.Goals as goal

pub returns-in-Some-clause-settled : goal.returns-in-Some-clause-settled
returns-in-Some-clause-settled c = λ eq.
    let size = c.args.units.now in
    let same = subst (λ (x : Pass). IsDeduced (units_question size) c.args.partial.now.places
    c.set_soles.new.partial.places x) eq c.set_soles.ensures.deduced in
    subst (λ q. IsBoardSettled size q) (sym same)
    (settled_of size c.args.partial.now.places c.args.candidates.now c.requires.partial.size c.requires.candidates
    c.requires.apart c.in-Some.shared c.in-Some.ensures.some c.in-Some.ensures.complete
    (c.set_soles.ensures.settled eq))
