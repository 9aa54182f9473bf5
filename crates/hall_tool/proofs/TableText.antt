-- The plan of a request for a table tells the reply that is written.
use Rattle.std.proofs.Common.{inl, inr, subst}
use Rattle.std.specs.Prelude.{◌≡◌, ◌<◌, ℕ, List, Ok, None, IsTrue}
use Rattle.std.proofs.lemmas.Bool.Decides.{nat_tests}
use Rattle.std.proofs.Common.{arith}
use Rattle.hall_policy.specs.Text.{is_word_byte}
use Rattle.hall_policy.specs.declared.request.Request.{Request}
use Rattle.hall_policy.specs.declared.request.Action.TheVariants.{Table}
use Rattle.hall_store.specs.Change.{changed}
use Rattle.hall_store.specs.Store.{Content}
use Rattle.hall_store.specs.declared.fault.StoreFault.{StoreFault}
use Rattle.hall_desk.specs.Plan.{planned_reply}
use Rattle.hall_desk.specs.Plans.{IsPlanFor, PlanCanFail, Planned}
use Rattle.hall_desk.specs.Step.{IsAnswered}
use Rattle.hall_desk.specs.declared.plan.Plan.{Plan}
use Rattle.hall_desk.specs.declared.reply.Reply.{Reply}
use Rattle.hall_policy.specs.World.{World}
use Rattle.hall_policy.specs.declared.rule.Decision.TheVariants.{Allow, Deny, Repeat}
use Rattle.hall_tool.specs.TableText.{IsOtherReply, IsTableReply, IsTableOver}

abbrev asked : List ℕ → Request
asked round = record { key = None; action = Table round }

-- what is planned changes nothing
of_plan : (world : World) (round : List ℕ) (plan : Plan) → IsPlanFor world 0 (asked round) plan
    → IsTableReply world round (planned_reply plan)
of_plan world round plan is = (
  is.answered.0,
  subst (λ change. IsAnswered world (record { moment = 0; request = asked round; found = is.answered.0 })
      (planned_reply plan) (changed change world)) (is.quiet (inr tt)) is.answered.1,
)

pub table_told : (new : Content) (round : List ℕ) (plan : Plan) (t : ℕ) → t ≡ 0
    → Planned {E = StoreFault} new t (asked round) (Ok plan)
    → IsTableOver new round (planned_reply plan)
table_told new round plan t none planned =
    elim (subst (λ n. Planned {E = StoreFault} new n (asked round) (Ok plan)) none planned) [
      | inl over ↦ inl (λ honest. ((over honest).0, of_plan new.world round plan (over honest).1))
      | inr always ↦ inr (λ world. of_plan world round plan (always.1 world))
    ]

-- a request for a table is answered by a table or a denial
no_other : (world : World) (round : List ℕ) (given : Reply) → IsTableReply world round given → IsOtherReply given → ⊥
no_other world round given (found, (Deny rule, first, decided)) other = other.1 rule decided.0
no_other world round given (found, (Repeat, first, decided)) other = decided.0
no_other world round given (found, (Allow, first, decided)) other = other.0 decided.0.0 decided.0.2

-- so another reply was told by a device that wasn't honest
pub other_fails : (old new : Content) (round : List ℕ) (given : Reply) → IsTableOver new round given
    → IsOtherReply given → PlanCanFail old new
other_fails old new round given (inl over) other =
    inr (record { why = inr (λ honest. absurd (no_other new.world round given (over honest).1 other)) })
other_fails old new round given (inr always) other =
    inr (record { why = inr (λ honest. absurd (no_other new.world round given (always new.world) other)) })

pub word_low : (byte : ℕ) → IsTrue (is_word_byte byte) → byte < 128
word_low byte h = grind (arith, nat_tests)
