use Rattle.std.proofs.Common.{below_more, subst, ◌≡◌, ◌<◌, ◌≤◌, length, lit≤, arith}
use Rattle.std.proofs.lemmas.Option.{get_or_from_slice_get}
use Rattle.hall_policy.specs.World.{World}
use Rattle.hall_policy.specs.Actions.{number_of, last_rule, rules_asked}
use Rattle.hall_policy.specs.Facts.{AreTrue, TrueUpTo, deciding}
use Rattle.hall_policy.specs.First.{First}
use Rattle.hall_policy.specs.Implies.{Implies, IsSame}
use Rattle.hall_policy.specs.declared.rule.Rule.{Rule}
use Rattle.hall_policy.specs.declared.rule.Rule.TheVariants.{UnknownKey}
use Rattle.hall_policy.specs.declared.rule.Decision.TheVariants.{Allow, Repeat, Deny}
use Rattle.hall_policy.proofs.First.{IsPassed, rule_at, MayRepeat, passes_before, denied, repeats, repeats_at, all_pass}
use Rattle.hall_policy.proofs.First.{allowed, repeated, decided, denial, small_deciding}
use Rattle.hall_policy.proofs.rule_checks.decide.Goals as goal

pub loop-rule-preserved : goal.loop-rule-preserved
loop-rule-preserved c = below_more _ _ c.loop-rule.invariant (λ rule at.
    subst (λ (r : Rule). IsPassed r c.args.facts.now c.args.action.now c.args.t)
    (get_or_from_slice_get (rules_asked c.args.action.now) c.loop-rule.rule-index rule UnknownKey at)
    (record {
      silent = rw c.rules_asked-rule-items.ensures at c.in-Passes.ensures.tells;
      implied = rw c.rules_asked-rule-items.ensures at c.in-Passes.ensures.implies;
    }))

pub returns-in-Forbids : goal.returns-in-Forbids
returns-in-Forbids c =
    let facts = c.args.facts.now in
    let action = c.args.action.now in
    let within : c.loop-rule.rule-index < length (rules_asked action) = rw c.rules_asked-rule-items.ensures at
    c.loop-rule-test.true in
    let number : c.number.result ≡ number_of (rule_at action c.loop-rule.rule-index) =
    rw c.rules_asked-rule-items.ensures at c.number.ensures in
    let first : (world : World) → TrueUpTo c.number.result facts world action
    → First world facts.caller action c.args.t (Deny c.number.result) =
    denied facts action c.args.t c.loop-rule.rule-index c.number.result within number c.loop-rule.invariant
    (rw c.rules_asked-rule-items.ensures at c.in-Forbids.ensures.tells) in
    let implied : Implies (Deny c.number.result) facts action = denial facts action c.loop-rule.rule-index
    c.number.result within number in
    record {
      first = decided facts action c.args.t c.number.result (Deny c.number.result) (omega arith) first implied;
      passes = passes_before facts action c.args.t c.loop-rule.rule-index c.number.result within number
          c.loop-rule.invariant;
      implies = implied;
      decided = decided facts action c.args.t last_rule (Deny c.number.result)
          (small_deciding facts action (Deny c.number.result) implied) first implied;
    }

pub returns-in-Repeats : goal.returns-in-Repeats
returns-in-Repeats c =
    let facts = c.args.facts.now in
    let action = c.args.action.now in
    let i = c.loop-rule.rule-index in
    let within : i < length (rules_asked action) = rw c.rules_asked-rule-items.ensures at c.loop-rule-test.true in
    let found : MayRepeat (rule_at action i) × IsSame facts action = rw c.rules_asked-rule-items.ensures at
    c.in-Repeats.ensures.implies in
    let number : deciding action Repeat ≡ number_of (rule_at action i) = repeats_at facts action i within found.0
    found.1 in
    let first : (world : World) → TrueUpTo (deciding action Repeat) facts world action
    → First world facts.caller action c.args.t Repeat =
    repeats facts action c.args.t i within number c.loop-rule.invariant
    (rw c.rules_asked-rule-items.ensures at c.in-Repeats.ensures.tells) in
    let implied : Implies Repeat facts action = repeated facts action c.args.t i within number c.loop-rule.invariant
    found.1 in
    record {
      first = decided facts action c.args.t (deciding action Repeat) Repeat (omega arith) first implied;
      passes = passes_before facts action c.args.t i (deciding action Repeat) within number c.loop-rule.invariant;
      implies = implied;
      decided = decided facts action c.args.t last_rule Repeat (small_deciding facts action Repeat implied) first
          implied;
    }

pub returns : goal.returns
returns c =
    let facts = c.args.facts.now in
    let action = c.args.action.now in
    let i = c.loop-rule.rule-index in
    let past : length (rules_asked action) ≤ i = rw c.rules_asked-rule-items.ensures at c.loop-rule-test.false in
    let first : (world : World) → AreTrue facts world action → First world facts.caller action c.args.t Allow = all_pass
    facts action c.args.t i past c.loop-rule.invariant last_rule in
    let implied : Implies Allow facts action = allowed facts action c.args.t i past c.loop-rule.invariant in
    record {
      first = decided facts action c.args.t last_rule Allow (lit≤ tt) first implied;
      passes = λ n less. all_pass facts action c.args.t i past c.loop-rule.invariant n;
      implies = implied;
      decided = decided facts action c.args.t last_rule Allow (lit≤ tt) first implied;
    }
