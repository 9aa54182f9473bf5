-- A ruling stays, whatever comes between.
use Rattle.std.proofs.Common.{◌≡◌, inl, inr, ℕ, List, Option, Some, refl, ap, ◌∙◌, arith, lit<}
use Rattle.std.specs.FinMap.{get}
use Rattle.hall_policy.specs.World.{World, protest_of}
use Rattle.hall_policy.specs.Actions.{number_of}
use Rattle.hall_policy.specs.First.{Repeated}
use Rattle.hall_policy.specs.declared.record.Person.{Person}
use Rattle.hall_policy.specs.declared.rule.Rule.{Rule}
use Rattle.hall_policy.specs.declared.rule.Rule.TheVariants as rule
use Rattle.hall_policy.specs.declared.rule.Decision.TheVariants.{Allow, Repeat, Deny}
use Rattle.hall_policy.specs.declared.record.ProtestKey.{ProtestKey}
use Rattle.hall_policy.specs.declared.record.ProtestRow.{ProtestRow}
use Rattle.hall_policy.specs.declared.record.Ruling.{Ruling}
use Rattle.hall_policy.specs.declared.request.Action.TheVariants as action
use Rattle.hall_policy.proofs.Maps.{get-insert_same}
use Rattle.hall_policy.proofs.Orders.{protest_total}
use Rattle.hall_store.specs.Caller.{caller_of}
use Rattle.hall_desk.specs.Lookups.{IsReleasedRound}
use Rattle.hall_desk.specs.History.{Event, History}
use Rattle.hall_desk.specs.Records.{KeptRecords}
use Rattle.hall_desk.specs.Step.{Step}
use Rattle.hall_desk.specs.ProtestPromises.{RulingsStay}
use Rattle.hall_desk.specs.declared.reply.Reply.TheVariants as reply
use Rattle.hall_desk.proofs.Rulings.{repeated_ruling, rulings_act_once}
use Rattle.hall_desk.proofs.Releases.{released_found}
use Rattle.hall_desk.proofs.Remaining.{remains_on, still_released, step_remains, records_stay}

-- a ruling that was told: it is the one that was asked for, its protest has it in the world after it, and its round was
-- released
pub record IsRuledIn (world kept : World) (id entrant token : List ℕ) (ruling told : Ruling) : Type 0 where
  pub same : told ≡ ruling
  pub row : ProtestRow
  pub stands : protest_of kept entrant id token ≡ Some row
  pub has : row.ruling ≡ Some ruling
  pub released : IsReleasedRound world id

-- the one rule that repeats a ruling is that on rulings
pub repeats_at_eighteen : (world : World) (caller : Option Person) (id entrant token : List ℕ) (ruling : Ruling)
    (r : Rule) → Repeated r world caller (action.RuleProtest id entrant token ruling) → number_of r ≡ 18
repeats_at_eighteen world caller id entrant token ruling rule.RuledOtherwise h = refl
repeats_at_eighteen world caller id entrant token ruling rule.TokenTaken h = absurd h.1
repeats_at_eighteen world caller id entrant token ruling _ h = absurd h.1

-- a ruling is told by a step that makes it, or finds it made
ruled_in : (world kept : World) (t : ℕ) (key : Option (List ℕ)) (id entrant token : List ℕ) (ruling told : Ruling) →
    Step world t (record { key = key; action = action.RuleProtest id entrant token ruling }) (reply.RuleProtest told)
    kept → IsRuledIn world kept id entrant token ruling told
ruled_in world kept t key id entrant token ruling told (inl (other, left)) = absurd (cc)
ruled_in world kept t key id entrant token ruling told (inr (found, (Deny k, first, (other, left)))) = absurd (cc)
ruled_in world kept t key id entrant token ruling told (inr (
  found,
  (Repeat, (r, repeated, none), ((row, ruled, stands, has, says), left)),
)) =
    let asked : ruled ≡ ruling = repeated_ruling world (caller_of world key) t id entrant token ruling ruled row stands
    has r repeated in
    let one : told ≡ ruled = cc in
    let late : number_of r ≡ 18 = repeats_at_eighteen world (caller_of world key) id entrant token ruling r repeated in
    record {
      same = one ∙ asked;
      row = row;
      stands = ap (λ (w : World). protest_of w entrant id token) left ∙ stands;
      has = has ∙ ap Some asked;
      released = released_found world (caller_of world key) (action.RuleProtest id entrant token ruling) id refl
          (λ missing. (none rule.Missing (omega (arith, late))).0 ((2, lit< tt, refl), inl missing));
    }
ruled_in world kept t key id entrant token ruling told (inr (found, (Allow, none, (row, stands, says, made)))) =
    let own_key : ProtestKey = record { entrant = entrant; round = id; token = token } in
    let now : ProtestRow = record row { ruling = Some ruling } in
    record {
      same = cc;
      row = now;
      stands = ap (λ (w : World). get w.protests own_key) made ∙ get-insert_same protest_total world.protests own_key
          now;
      has = refl;
      released = released_found world (caller_of world key) (action.RuleProtest id entrant token ruling) id refl
          (λ missing. (none rule.Missing (lit< tt)).0 ((2, lit< tt, refl), inl missing));
    }

-- a ruling that was told, in a later world
pub record IsRuledLater (later : World) (id entrant token : List ℕ) (ruling told : Ruling) : Type 0 where
  pub same : told ≡ ruling
  pub row : ProtestRow
  pub stands : protest_of later entrant id token ≡ Some row
  pub has : row.ruling ≡ Some ruling
  pub released : IsReleasedRound later id

pub ruled_later : (world kept later : World) (t : ℕ) (key : Option (List ℕ)) (id entrant token : List ℕ)
    (ruling told : Ruling) (events : List Event) →
    Step world t (record { key = key; action = action.RuleProtest id entrant token ruling }) (reply.RuleProtest told)
    kept → History kept events later → IsRuledLater later id entrant token ruling told
ruled_later world kept later t key id entrant token ruling told events first life =
    let h = ruled_in world kept t key id entrant token ruling told first in
    let between : KeptRecords kept later = records_stay kept later events life in
    let stays = between.protests (record { entrant = entrant; round = id; token = token }) h.row h.stands in
    let remains : KeptRecords world later = remains_on world kept later
    (step_remains world t (record { key = key; action = action.RuleProtest id entrant token ruling })
    (reply.RuleProtest told) kept first) between in
    let round = remains.rounds id h.released.0 h.released.1 h.released.2 in
    record {
      same = h.same;
      row = stays.after;
      stands = stays.found;
      has = stays.ruled ruling h.has;
      released = (round.after, round.found, still_released world later id h.released.0 round h.released.2);
    }

-- a ruling stays
pub rulings_stay : RulingsStay
rulings_stay world kept later t key id entrant token ruling told events first life =
    let h = ruled_later world kept later t key id entrant token ruling told events first life in (
      h.same,
      (h.row, h.stands, h.has),
      λ u by again given new step.
          let retry = rulings_act_once later u by id entrant token again ruling h.row given new h.stands h.has step in (
            retry.0,
            elim retry.1 [
              | inl missing ↦ absurd (missing.1 h.released)
              | inr answered ↦ answered
            ],
          ),
    )
