-- The plan of a listing of answers.
use Rattle.std.proofs.Common.{◌≡◌, ◌&&◌, ◌||◌, not, ℕ, Bool, true, false, List, Option, Some, map, refl, sym, ap, subst}
use Rattle.std.specs.FinMap.{values}
use Rattle.std.specs.List.Sorted.{IsPermutation}
use Rattle.std.specs.Prelude.{nat_le, Result, Ok, Err}
use Rattle.std.proofs.lemmas.List.Elements.{filter_agree}
use Rattle.hall_policy.specs.Actions.{last_rule}
use Rattle.hall_policy.specs.World.{World, IsRoundAt, end_of, same_text}
use Rattle.hall_policy.specs.Facts.{AreTrue, IsRoundFound}
use Rattle.hall_policy.specs.Decided.{IsDecidedUpTo}
use Rattle.hall_policy.specs.declared.facts.Facts.{Facts}
use Rattle.hall_policy.specs.declared.record.AnswerRow.{AnswerRow}
use Rattle.hall_policy.specs.declared.record.Person.{Person}
use Rattle.hall_policy.specs.declared.record.Round.{Round}
use Rattle.hall_policy.specs.declared.record.PuzzleState.TheVariants as state
use Rattle.hall_policy.specs.declared.record.RoundRow.{RoundRow}
use Rattle.hall_policy.specs.declared.request.Action.{Action}
use Rattle.hall_policy.specs.declared.request.Action.TheVariants.{Answers}
use Rattle.hall_policy.specs.declared.request.Request.{Request}
use Rattle.hall_policy.specs.declared.rule.Decision.{Decision}
use Rattle.hall_policy.specs.declared.rule.Decision.TheVariants.{Allow, Deny}
use Rattle.hall_store.specs.Store.{Content, Kept, Asks, IsListing, IsRoundKept, Served, is_in, is_of}
use Rattle.hall_store.proofs.Knowing.{carried}
use Rattle.hall_desk.specs.Lines.{AreLinesOf}
use Rattle.hall_desk.specs.Lookups.{IsCaller}
use Rattle.hall_desk.specs.Plans.{IsPlanFor, IsMadeBy}
use Rattle.hall_desk.specs.Shown.{answer_line, is_sealed, sees_all, sees_answer, shows_verdict}
use Rattle.hall_desk.specs.Step.{Allowed}
use Rattle.hall_desk.specs.declared.plan.Plan.{Plan}
use Rattle.hall_desk.specs.declared.reply.AnswerLine.{AnswerLine}
use Rattle.hall_desk.specs.declared.reply.Reply.TheVariants as reply
use Rattle.hall_desk.proofs.ReadPlans.{answering, denied_plan, read_plan}
use Rattle.hall_desk.proofs.FactsTold.{list_told}

-- ---- what a listing shows to whom
-- who sees all answers sees verdicts
verdicts_seen : (director referee ended sealed : Bool) → (director || (referee && ended)) ≡ true
    → (not sealed || (ended || director)) ≡ true
verdicts_seen director referee ended false all = refl
verdicts_seen director referee true true all = refl
verdicts_seen true referee false true all = refl
verdicts_seen false true false true all = all
verdicts_seen false false false true all = all

and_true : (a : Bool) → (a && true) ≡ a
and_true true = refl
and_true false = refl

module _ (world : World) (person : Person) (round : Round) (id : List ℕ) (t : ℕ) (lines : List AnswerLine) where
  -- so all answers of the round with their verdicts are those that who sees all sees
  pub all_seen : sees_all person round t ≡ true → AreLinesOf world (is_in id) true lines
      → AreLinesOf world (sees_answer person round id t) (shows_verdict person round t) lines
  all_seen all (rows, listing, shown) = (
    rows,
    subst (λ (sees : Bool). IsListing world (λ row. same_text row.key.round id
        && (sees || same_text row.key.entrant person.name)) rows) (sym all)
        (record {
          whole = subst (λ (kept : List AnswerRow). IsPermutation kept rows) (filter_agree (is_in id)
              (λ row. same_text row.key.round id && true) (λ row. sym (and_true (is_in id row)))
              (values world.answers)) listing.whole;
          in_order = listing.in_order;
        }),
    subst (λ (shows : Bool). lines ≡ map (answer_line shows) rows) (sym (verdicts_seen person.roles.director
        person.roles.referee (nat_le (end_of round) t) (is_sealed round.mode) all)) shown,
  )

  -- and who doesn't sees the own ones
  pub own_seen : sees_all person round t ≡ false
      → AreLinesOf world (is_of person.name id) (shows_verdict person round t) lines
      → AreLinesOf world (sees_answer person round id t) (shows_verdict person round t) lines
  own_seen own (rows, listing, shown) = (
    rows,
    subst (λ (sees : Bool). IsListing world (λ row. same_text row.key.round id
        && (sees || same_text row.key.entrant person.name)) rows) (sym own) listing,
    shown,
  )

-- what is served may be said otherwise
pub served_as : {R E : Type 0} (result : Result R E) (new : Content) (M N : World → R → Type 0)
    → ((x : R) → M new.world x → N new.world x) → Served new result M → Served new result N
served_as (Ok x) new M N turn served = λ h. ((served h).0, turn x (served h).1)
served_as (Err e) new M N turn served = tt

-- ---- the plan
module _ (old mid : Content) (facts : Facts) (t : ℕ) (request : Request) (id : List ℕ)
    (is : request.action ≡ Answers id)
    (caller : Asks old (λ world. IsCaller world request.key facts.caller)) (kept : Kept old mid)
    (read : mid.honest → mid.serves × IsRoundKept mid.world id facts.round) where
  -- what the rules read was found
  found : mid.honest → AreTrue facts mid.world request.action
  found h = list_told mid.world facts request.action id is (read h).1.row

  module _ (decision : Decision) (decided : IsDecidedUpTo last_rule facts request.action t decision) where
    -- answers that aren't listed
    pub listing_denied : (rule : ℕ) (plan : Plan) → decision ≡ Deny rule → plan ≡ answering (reply.Denied rule)
        → mid.honest → mid.serves × IsPlanFor mid.world t request plan
    listing_denied = denied_plan old mid facts t request caller kept (λ h. (read h).0) found decision decided

    -- answers that are
    pub listing_planned : (new : Content) (person : Person) (row : RoundRow) (lines : List AnswerLine) (plan : Plan)
        → facts.caller ≡ Some person → facts.round ≡ Some row → decision ≡ Allow → Kept mid new →
        (new.honest → new.serves × AreLinesOf new.world (sees_answer person row.round id t)
        (shows_verdict person row.round t) lines) → plan ≡ answering (reply.Answers lines) → new.honest → new.serves
        × IsPlanFor new.world t request plan
    listing_planned new person row lines plan who seen allowed left served =
        read_plan old mid facts t request caller kept (λ h. (read h).0) found decision decided new
        (reply.Answers lines) plan allowed left (λ h.
        let s : new.serves = (served h).0 in
        let (rows, listing, shown) = (served h).1 in
        let at : IsRoundAt new.world id row = carried (λ w. IsRoundAt w id row) mid new left
        (λ h0 s0. subst (λ (o : Option RoundRow). IsRoundFound mid.world (Some id) o) seen (read h0).1.row) h s in (
          s,
          (
            subst (λ (a : Action). Allowed new.world facts.caller a t state.GaveUp (reply.Answers lines) new.world)
                (sym is) (person, who, ((row.round, rows, at.head, listing, ap reply.Answers shown), refl)),
            subst (λ (a : Action). IsMadeBy new.world a (answering (reply.Answers lines))) (sym is) (tt, tt),
          ),
        ))
