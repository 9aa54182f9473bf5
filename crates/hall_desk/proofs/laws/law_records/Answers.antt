use Rattle.hall_desk.proofs.Remaining.{records_stay, released_puzzles_stay}
use Rattle.hall_desk.proofs.Histories.{runs_are_histories}
use Rattle.hall_desk.proofs.laws.law_records.Goals as goal

pub returns-clause-stay : goal.returns-clause-stay
returns-clause-stay c = records_stay

pub returns-clause-runs : goal.returns-clause-runs
returns-clause-runs c = runs_are_histories

pub returns-clause-puzzles : goal.returns-clause-puzzles
returns-clause-puzzles c = released_puzzles_stay
