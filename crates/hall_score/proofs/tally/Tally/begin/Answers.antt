use Rattle.std.proofs.Common.{refl, subst, [], ◌∷◌}
use Rattle.hall_score.specs.Progress.{IsProgressOf}
use Rattle.hall_score.proofs.TallyLemmas.{begin_takes}
use Rattle.hall_score.proofs.tally.Tally.begin.Goals as goal

pub returns-clause-ok : goal.returns-clause-ok
returns-clause-ok c =
    let rest = c.in_ok-close.ensures.rest in
    begin_takes c.args.self.now _ c.args.row.now _ c.requires rest.0 rest.1 refl c.in_ok-name.ensures.cases
    (subst (λ r. IsProgressOf r (c.args.row.now ∷ []) c.first.result) rest.0 c.first.ensures) c.in_ok-close.ensures.ok
