-- A protest that is ruled.
use Rattle.std.proofs.Common.{◌≡◌, ℕ, Some, refl, sym, ap, ◌∙◌, subst}
use Rattle.std.specs.FinMap.{get}
use Rattle.hall_policy.specs.World.{World}
use Rattle.hall_policy.specs.Facts.{AreTrue}
use Rattle.hall_policy.specs.Implies.{ProtestIsThere}
use Rattle.hall_policy.specs.declared.facts.Facts.{Facts}
use Rattle.hall_policy.specs.declared.record.ProtestRow.{ProtestRow}
use Rattle.hall_policy.specs.declared.record.PuzzleState.TheVariants as state
use Rattle.hall_store.specs.Change.{changed, with_ruling, CanMake}
use Rattle.hall_store.specs.declared.change.Change.{Change}
use Rattle.hall_store.specs.declared.change.Change.TheVariants as change
use Rattle.hall_desk.specs.Handler.{rule_protest_action, ruled_key}
use Rattle.hall_desk.specs.Plans.{IsChangeOf, IsMadePlan}
use Rattle.hall_desk.specs.declared.plan.Plan.{Plan}
use Rattle.hall_desk.specs.declared.reply.Reply.TheVariants as reply
use Rattle.hall_desk.specs.declared.rule_protest.RuleProtest.{RuleProtest}

-- the protest may be ruled, and its ruling makes the plan
pub ruled : (world : World) (facts : Facts) (asked : RuleProtest) (t : ℕ) (plan : Plan)
    → ProtestIsThere facts (rule_protest_action asked) →
    AreTrue facts world (rule_protest_action asked) → plan.reply ≡ reply.RuleProtest asked.ruling
    → plan.change ≡ change.RuleProtest (ruled_key asked) asked.ruling →
    IsMadePlan world facts.caller (rule_protest_action asked) t plan
ruled world facts asked t plan there told replied changes =
    let row : ProtestRow = there.row in
    let kept : get world.protests (ruled_key asked) ≡ Some row = sym told.1.1.0.1 ∙ there.found in
    record {
      found = state.New;
      allowed = (
        row,
        kept,
        replied,
        ap (λ (change : Change). changed change world) changes
            ∙ ap (with_ruling world (ruled_key asked) asked.ruling) kept,
      );
      can = subst (λ (change : Change). CanMake change world) (sym changes) (row, kept);
      quiet = λ nothing. absurd nothing;
      made = (
        subst (λ (change : Change). IsChangeOf change (rule_protest_action asked)) (sym changes) (refl, refl),
        tt,
      );
    }
