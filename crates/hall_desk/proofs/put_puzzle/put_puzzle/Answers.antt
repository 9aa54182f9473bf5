use Rattle.hall_desk.proofs.PlanLemmas.{put_new}
use Rattle.hall_desk.proofs.put_puzzle.put_puzzle.Goals as goal

pub returns-in_ok-clone-in-None-2 : goal.returns-in_ok-clone-in-None-2
returns-in_ok-clone-in-None-2 c = λ world told t.
    put_new world c.args.facts.now t c.args.key.now c.in_ok-clone-in-None.field-0 c.args.puzzle.now
    c.in_ok-clone-in-None-2.field-0 c.in_ok-text.text
    (let same = c.in_ok-clone-in-None.ensures.cases in λ i. record { author = same.0 i; label = same.1 i })
    c.in_ok-clone-in-None-2.ensures.cases c.in_ok-text.ensures told c.requires.object c.in-None.ensures
