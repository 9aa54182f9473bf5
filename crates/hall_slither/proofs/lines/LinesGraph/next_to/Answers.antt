use Rattle.hall_slither.proofs.lines.LinesGraph.next_to.Goals as goal

pub returns-clause-all : goal.returns-clause-all
returns-clause-all c = λ other share line. c.sides_beside.ensures.all other share line.0
