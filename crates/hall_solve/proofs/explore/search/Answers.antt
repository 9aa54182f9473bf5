use Rattle.std.proofs.Common.{arith, subst}
use Rattle.hall_solve.specs.declared.explore.Progress.{Progress}
use Rattle.hall_solve.specs.declared.explore.Progress.TheVariants.{Paused}
use Rattle.hall_solve.specs.Progress.{IsProgress}
use Rattle.hall_solve.proofs.Underway.{given_up}
use Rattle.hall_solve.proofs.explore.search.Goals as goal

pub returns-in-Paused-clause-outcome : goal.returns-in-Paused-clause-outcome
returns-in-Paused-clause-outcome g c =
    let q = g.R.Rules.question c.args.rules.now in
    let start = c.args.start.now.places in
    let visits = g.R.Rules.visits c.go_on.new.rules in
    let walk = c.in-Paused._walk in
    let paused : IsProgress q start c.args.budget visits (Paused walk) = subst
    (λ (x : Progress). IsProgress q start c.args.budget visits x) c.in-Paused.is c.in_ok-outcome.ensures.progress in
    given_up q start walk.board walk.stack.items walk.found visits c.args.budget paused.1 paused.0
