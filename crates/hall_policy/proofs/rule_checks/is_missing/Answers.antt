use Rattle.std.proofs.Common.{inl, inr}
use Rattle.hall_policy.proofs.Implies.{submit_there, protest_there}
use Rattle.hall_policy.proofs.rule_checks.is_missing.Goals as goal

pub returns-else-hides_round-2-clause-there : goal.returns-else-hides_round-2-clause-there
returns-else-hides_round-2-clause-there c = λ has.
    let shown = c.hides_round-in-Submit.ensures.there c.if-hides_round-2.false in
    let entry = c.lacks_number.ensures.there shown.row shown.found has in
    elim (c.in-Submit.is) [
      | inl w ↦ submit_there c.args.facts.now c.args.action.now w.0 c.in-Submit.number w.1 w.2 w.3 shown entry
      | inr w ↦ protest_there c.args.facts.now c.args.action.now w.0 w.1 c.in-Submit.number w.2 w.3 shown entry
    ]
