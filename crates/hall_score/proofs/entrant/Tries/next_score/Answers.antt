use Rattle.hall_score.proofs.entrant.Tries.next_score.Goals as goal

pub returns-in-Sealed-clause-score : goal.returns-in-Sealed-clause-score
returns-in-Sealed-clause-score c = λ rows before tries. c.sealed_score.ensures.score rows before
