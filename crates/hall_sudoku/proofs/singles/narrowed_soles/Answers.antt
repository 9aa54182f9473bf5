use Rattle.hall_solve.proofs.Trails.{Grows-twice}
use Rattle.hall_sudoku.proofs.singles.narrowed_soles.Goals as goal

pub returns-then-leave_pairs-clause-grows : goal.returns-then-leave_pairs-clause-grows
returns-then-leave_pairs-clause-grows g c =
    Grows-twice c.args.partial.now c.soles.new.partial c.soles-then-leave_pairs.new.partial c.soles.ensures.grows
    c.soles-then-leave_pairs.ensures.grows
