use Rattle.std.proofs.Common.{◌≡◌, arith, refl, sym, ◌∙◌, subst}
use Rattle.hall_solve.specs.declared.explore.Progress.{Progress}
use Rattle.hall_solve.specs.declared.explore.Progress.TheVariants.{Paused}
use Rattle.hall_solve.specs.declared.outcome.Outcome.{Outcome}
use Rattle.hall_solve.specs.declared.outcome.Outcome.TheVariants.{GaveUp}
use Rattle.hall_solve.specs.Answer.{OutcomeOf, fewest_visits}
use Rattle.hall_solve.specs.Searched.{outcome_of}
use Rattle.hall_solve.specs.Progress.{IsProgress}
use Rattle.hall_solve.proofs.Underway.{given_up, IsUnderWay-same}
use Rattle.hall_solve.proofs.paused.Search.go_on.Goals as goal

pub returns-in-Paused-clause-gone_on : goal.returns-in-Paused-clause-gone_on
returns-in-Paused-clause-gone_on g c =
    let q = g.R.Rules.question c.args.rules.now in
    let start = c.args.self.start.places in
    let budget = c.args.self.budget in
    let visits = g.R.Rules.visits c.go_on.new.rules in
    let walk = c.in-Paused.field-0 in
    let paused : IsProgress q start c.min-until.result visits (Paused walk) = subst
    (λ (x : Progress). IsProgress q start c.min-until.result visits x) c.in-Paused.is
    c.in_ok-outcome.ensures.progress in
    let all : visits ≡ budget = paused.0 ∙ c.if-until-budget.true in
    let gave : outcome_of c.of-in-Paused.result ≡ GaveUp = c.of-in-Paused.ensures.outcome in
    record {
      outcome = subst (λ (o : Outcome). OutcomeOf q start budget o) (sym gave)
          (given_up q start walk.board walk.stack.items walk.found visits budget paused.1 all);
      counted = c.of-in-Paused.ensures.visits ∙ c.visits-in-Paused.ensures;
      spent = record {
        within = omega (arith, c.of-in-Paused.ensures.visits, c.visits-in-Paused.ensures, all);
        whole =
            λ _. c.of-in-Paused.ensures.visits ∙ c.visits-in-Paused.ensures ∙ all;
      };
      took = rw gave (omega arith);
    }

pub returns-in-Paused-2-clause-gone_on : goal.returns-in-Paused-2-clause-gone_on
returns-in-Paused-2-clause-gone_on g c =
    let q = g.R.Rules.question c.args.rules.now in
    let start = c.args.self.start.places in
    let visits = g.R.Rules.visits c.go_on.new.rules in
    let walk = c.in-Paused.field-0 in
    let paused : IsProgress q start c.min-until.result visits (Paused walk) = subst
    (λ (x : Progress). IsProgress q start c.min-until.result visits x) c.in-Paused.is
    c.in_ok-outcome.ensures.progress in
    record {
      start = refl;
      budget = refl;
      under_way = record {
        walk = IsUnderWay-same q (g.R.Rules.question c.go_on.new.rules) start walk.board walk.stack.items walk.found
            visits c.go_on.ensures.same paused.1;
        within = omega (arith, c.min-until.ensures, c.saturating_add.ensures, c.visits.ensures, paused.0);
      };
      reached = omega (
        arith,
        c.min-until.ensures,
        c.saturating_add.ensures,
        c.visits.ensures,
        paused.0,
        c.if-until-budget.false,
      );
      short = omega (
        arith,
        paused.0,
        c.if-until-budget.false,
        c.min-until.ensures,
        c.saturating_add.ensures,
        c.visits.ensures,
      );
    }
