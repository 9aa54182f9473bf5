use Rattle.hall_desk.proofs.EmptySane.{empty_sane}
use Rattle.hall_desk.proofs.Seeding.{seed_sane}
use Rattle.hall_desk.proofs.StepsSane.{step_sane, run_sane}
use Rattle.hall_desk.proofs.Histories.{history_sane}
use Rattle.hall_desk.proofs.Promises.{unique_solutions, right_answers, verdicts_are_judged}
use Rattle.hall_desk.proofs.laws.law_sanity.Goals as goal

pub returns : goal.returns
returns c = record {
  opens = empty_sane;
  seeds = λ world new people given are each sane seed. seed_sane world people given new are each seed sane;
  unique = unique_solutions;
  right = right_answers;
  judged = verdicts_are_judged;
  steps = λ world new t request given timed is sane step. step_sane world t request given new timed is step sane;
  runs = λ world last requests replies timed sane run. run_sane world requests replies last timed run sane;
  lives = λ world last events typed sane life. history_sane events world last typed life sane;
}
