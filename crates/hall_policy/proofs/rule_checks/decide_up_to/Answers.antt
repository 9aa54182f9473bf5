use Rattle.std.proofs.Common.{◌<◌, ◌≤◌, arith}
use Rattle.hall_policy.specs.Actions.{number_of, last_rule}
use Rattle.hall_policy.specs.Facts.{deciding}
use Rattle.hall_policy.proofs.First.{decided, small_deciding}
use Rattle.hall_policy.proofs.rule_checks.decide_up_to.Goals as goal

pub returns-then-deciding-number-clause-some : goal.returns-then-deciding-number-clause-some
returns-then-deciding-number-clause-some c =
    let d = c.decide-decision in
    let in_time : deciding c.args.action.now d.result ≤ number_of c.args.most = omega
    (arith, c.if-deciding-number.true, c.deciding.ensures, c.number.ensures) in
    decided c.args.facts.now c.args.action.now c.args.t (number_of c.args.most) d.result in_time
    (λ world told. (d.ensures.first world told).first) d.ensures.implies

pub returns-else-deciding-number-clause-none : goal.returns-else-deciding-number-clause-none
returns-else-deciding-number-clause-none c =
    let later : number_of c.args.most < deciding c.args.action.now c.decide-decision.result = omega
    (arith, c.if-deciding-number.false, c.deciding.ensures, c.number.ensures) in
    c.decide-decision.ensures.passes (number_of c.args.most) later

pub returns-else-deciding-number-clause-whole : goal.returns-else-deciding-number-clause-whole
returns-else-deciding-number-clause-whole c =
    let small : deciding c.args.action.now c.decide-decision.result ≤ last_rule = small_deciding c.args.facts.now
    c.args.action.now c.decide-decision.result c.decide-decision.ensures.implies in
    omega (arith, small, c.if-deciding-number.false, c.deciding.ensures, c.number.ensures)
