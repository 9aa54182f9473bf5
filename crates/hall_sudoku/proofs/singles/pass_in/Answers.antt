use Rattle.hall_solve.proofs.Trails.{Grows-itself, Grows-twice}
use Rattle.hall_sudoku.proofs.singles.pass_in.Goals as goal

pub returns-in_default-clause-grows : goal.returns-in_default-clause-grows
returns-in_default-clause-grows g c = Grows-itself c.args.partial.now

pub returns-then-narrow-clause-grows : goal.returns-then-narrow-clause-grows
returns-then-narrow-clause-grows g c =
    Grows-twice c.args.partial.now c.soles.new.partial c.narrowed_soles.new.partial c.soles.ensures.grows
    c.narrowed_soles.ensures.grows
