use Rattle.std.proofs.Common.{◌-◌, ◌≤◌}
use Rattle.hall_solve.specs.Question.{IsSameQuestion}
use Rattle.hall_solve.specs.Underway.{IsUnderWay}
use Rattle.hall_solve.proofs.explore.go_on.Given as goal

abbrev pub invariant-visiting : goal.invariant-visiting
invariant-visiting g l =
    let rules = g.R.Rules in
    let asked = rules.question l.fn.rules in
    record {
      same : IsSameQuestion asked (rules.question l.rules);
      at_visits : rules.asked l.rules ≤ rules.visits l.rules;
      within : rules.visits l.rules ≤ l.until;
      under_way : IsUnderWay asked l.start.places l.board l.stack.items l.found (rules.visits l.rules);
    }

abbrev pub decreases-visiting : goal.decreases-visiting
decreases-visiting g l = l.until - g.R.Rules.visits l.rules
