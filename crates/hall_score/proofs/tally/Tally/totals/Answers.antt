use Rattle.std.proofs.Common.{[], subst, sym}
use Rattle.hall_score.specs.Tally.{AreTotalsOf}
use Rattle.hall_score.proofs.TallyLemmas.{took_answers, took_protests}
use Rattle.hall_score.proofs.tally.Tally.totals.Goals as goal

pub returns : goal.returns
returns c = λ round protests answers fresh between is first second.
    let taken = took_answers round protests between [] answers c.args.self
    (took_protests round fresh [] protests between is first) second in
    subst (AreTotalsOf round protests answers) (sym c.into_list.ensures)
    (c.in_ok-close.ensures.ok round protests answers taken)
