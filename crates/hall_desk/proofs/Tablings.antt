-- A table that is made in slices.
use Rattle.std.proofs.Common.{◌≡◌, ◌&&◌, ℕ, Bool, true, false, List, [], Option, Some, None, IfSome}
use Rattle.std.proofs.Common.{inl, inr, lit<, refl, sym, ◌∙◌, subst}
use Rattle.std.specs.Prelude.{ℤ}
use Rattle.hall_policy.specs.Actions.{last_rule}
use Rattle.hall_policy.specs.Decided.{IsDecided, IsDecidedUpTo}
use Rattle.hall_policy.specs.Facts.{IsRoundFound}
use Rattle.hall_policy.specs.First.{First, Forbids, NoneDecides, Repeated}
use Rattle.hall_policy.specs.Sink.{HasTaken}
use Rattle.hall_policy.specs.World.{World, IsRoundAt}
use Rattle.hall_policy.specs.declared.facts.Facts.{Facts}
use Rattle.hall_policy.specs.declared.record.AnswerRow.{AnswerRow}
use Rattle.hall_policy.specs.declared.record.Person.{Person}
use Rattle.hall_policy.specs.declared.record.ProtestRow.{ProtestRow}
use Rattle.hall_policy.specs.declared.record.RoundRow.{RoundRow}
use Rattle.hall_policy.specs.declared.request.Action.{Action}
use Rattle.hall_policy.specs.declared.request.Action.TheVariants.{Table}
use Rattle.hall_policy.specs.declared.request.Request.{Request}
use Rattle.hall_policy.specs.declared.rule.Decision.{Decision}
use Rattle.hall_policy.specs.declared.rule.Decision.TheVariants.{Allow}
use Rattle.hall_policy.specs.declared.rule.Rule.{Rule}
use Rattle.hall_policy.specs.declared.rule.Rule.TheVariants as rule
use Rattle.hall_score.specs.Table.{IsTable}
use Rattle.hall_score.specs.Tally.{AreTotalsOf, IsTallyOf, TakesAnswer, TakesProtest}
use Rattle.hall_score.specs.declared.tally.Tally.{Tally}
use Rattle.hall_store.specs.Caller.{caller_of}
use Rattle.hall_store.specs.Store.{Content, IsRoundKept, Kept}
use Rattle.hall_store.proofs.Knowing.{carried}
use Rattle.hall_desk.specs.Slices.{AreAllTaken}
use Rattle.hall_desk.specs.Tabling.{BeginsTally, TablesOn, WaitsForTable}
use Rattle.hall_desk.specs.Totals.{IsTableAt}
use Rattle.hall_desk.specs.Wanted.{AsksTable}
use Rattle.hall_desk.specs.declared.copies.Copies.{Copies}
use Rattle.hall_desk.proofs.Finality.{table_rules}
use Rattle.hall_desk.proofs.FactsTold.{table_told}
use Rattle.hall_desk.proofs.Totalled.{totals_are}

-- ---- whom a table is told
and_false : (a : Bool) → (a && false) ≡ false
and_false true = refl
and_false false = refl

-- no rule that a Table is asked speaks of the caller or the moment
module _ (world : World) (id : List ℕ) (who other : Option Person) (t later : ℕ)
    (none : NoneDecides world who (Table id) t) where
  none_forbids : (r : Rule) → ¬ (Forbids r world other (Table id) later)
  none_forbids r forbids = elim (table_rules r id forbids.0) [
    | inl missing ↦
        let now : Forbids rule.Missing world other (Table id) later = subst
        (λ (x : Rule). Forbids x world other (Table id) later) missing forbids in
        (none rule.Missing (lit< tt)).0 (now.0, λ round kept. ((now.1 round kept).0, and_false _))
    | inr unpublished ↦
        let now : Forbids rule.Published world other (Table id) later = subst
        (λ (x : Rule). Forbids x world other (Table id) later) unpublished forbids in
        (none rule.Published (lit< tt)).0 now
  ]

  none_repeats : (r : Rule) → ¬ (Repeated r world other (Table id))
  none_repeats r repeated = elim (table_rules r id repeated.0) [
    | inl missing ↦
        let now : Repeated rule.Missing world other (Table id) = subst
        (λ (x : Rule). Repeated x world other (Table id)) missing repeated in
        absurd now.1
    | inr unpublished ↦
        let now : Repeated rule.Published world other (Table id) = subst
        (λ (x : Rule). Repeated x world other (Table id)) unpublished repeated in
        absurd now.1
  ]

  allowed_to_all : NoneDecides world other (Table id) later
  allowed_to_all r below = (none_forbids r, none_repeats r)

-- the round that was found, where the rules allow its table
pub table_asked : (new : Content) (facts : Facts) (request : Request) (id : List ℕ) (t : ℕ) (decision : Decision)
    (found : Option RoundRow) → request.action ≡ Table id
    → (new.honest → new.serves × IsRoundKept new.world id facts.round)
    → IsDecidedUpTo last_rule facts request.action t decision → decision ≡ Allow → found ≡ facts.round → new.honest
    → new.serves × IfSome found (λ row. IsRoundAt new.world id row × AsksTable new.world request)
table_asked new facts request id t decision None is read decided allows same h = ((read h).0, tt)
table_asked new facts request id t decision (Some row) is read decided allows same h =
    let world : World = new.world in
    let at : IsRoundAt world id row = subst (IsRoundFound world (Some id)) (sym same) (read h).1.row in
    let sure : IsDecided world facts (Table id) t Allow =
    subst (λ (a : Action). IsDecided world facts a t Allow) is
    (subst (λ (d : Decision). IsDecided world facts request.action t d) allows
    (decided world (table_told world facts request.action id is (read h).1.row))) in (
      (read h).0,
      (
        at,
        record {
          id = id;
          round = row.round;
          asked = is;
          allowed = λ later. subst (λ (a : Action). First world (caller_of world request.key) a later Allow) (sym is)
              (allowed_to_all world id facts.caller (caller_of world request.key) t later sure.first);
          kept = at.head;
          published = sure.implied.published row (sym same);
        },
      ),
    )

-- ---- the table
-- that of the totals of what was taken
pub table_made : (world : World) (id : List ℕ) (taken : Tally) (totals : List (List ℕ × ℤ)) (text : List ℕ)
    → AreAllTaken TakesAnswer BeginsTally world id taken
    → ((round : RoundRow) (protests : List ProtestRow) (answers : List AnswerRow) (fresh between : Tally)
    → IsTallyOf round [] [] fresh → HasTaken TakesProtest fresh protests between
    → HasTaken TakesAnswer between answers taken → AreTotalsOf round protests answers totals)
    → IsTable totals text → IsTableAt world id text
table_made world id taken totals text (between, begun, answers, listed, took) given written = (
  begun.row,
  begun.at,
  (
    totals,
    totals_are world id begun.row answers listed totals
        (given begun.row _ answers begun.fresh between begun.begun begun.protests took),
    written,
  ),
)

-- ---- who waits
-- who asks for the table of a round waits for it, once the tally came on
pub table_waits : (old new : Content) (request : Request) (id : List ℕ) (before after : Copies)
    → request.action ≡ Table id → Kept old new → (old.honest → old.serves × AsksTable old.world request)
    → (new.honest → new.serves × TablesOn before.tabling id after.tabling after.tables)
    → WaitsForTable new request before after
table_waits old new request id before after is kept told on h =
    let s : new.serves = (on h).0 in
    let asks : AsksTable new.world request =
    carried (λ w. AsksTable w request) old new kept (λ h0 _. (told h0).1) h s in
    let named : Table id ≡ Table asks.id = sym is ∙ asks.asked in
    let same : id ≡ asks.id = cc in (
      s,
      asks,
      subst (λ (i : List ℕ). TablesOn before.tabling i after.tabling after.tables) same (on h).1,
    )
