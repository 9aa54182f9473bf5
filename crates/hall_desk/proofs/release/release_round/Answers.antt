use Rattle.hall_desk.proofs.PlanLemmas.{released}
use Rattle.hall_desk.proofs.release.release_round.Goals as goal

pub returns : goal.returns
returns c = λ world told t.
    released world c.args.facts.now t c.args.round.now c.in_ok-shown.shown c.in_ok-kept.kept c.in-Some._row
    c.in_ok-shown.ensures.cases c.in_ok-kept.ensures.cases told c.in-Some.is
