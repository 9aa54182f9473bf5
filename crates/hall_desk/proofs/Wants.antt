-- The search that a request waits for is of the puzzle in the store's world, and the rules allow it.
use Rattle.std.proofs.Common.{◌≡◌, ◌≢◌, ◌∙◌, ℕ, zero, suc, Bool, true, false, Option, Some, None, List, Contains, refl}
use Rattle.std.proofs.Common.{sym, ap, subst, arith}
use Rattle.std.proofs.lemmas.Bool.{false≢true}
use Rattle.std.specs.Prelude.{Ok}
use Rattle.std.specs.FinMap.{get}
use Rattle.hall_policy.specs.World.{World}
use Rattle.hall_policy.specs.Facts.{AreTrue}
use Rattle.hall_policy.specs.Actions.{rules_asked}
use Rattle.hall_policy.specs.First.{First, Forbids, NoneDecides}
use Rattle.hall_policy.specs.Decided.{IsDecided}
use Rattle.hall_policy.specs.declared.facts.Facts.{Facts}
use Rattle.hall_policy.specs.declared.record.Person.{Person}
use Rattle.hall_policy.specs.declared.record.PuzzleKey.{PuzzleKey}
use Rattle.hall_policy.specs.declared.record.PuzzleRow.{PuzzleRow}
use Rattle.hall_policy.specs.declared.request.Action.{Action}
use Rattle.hall_policy.specs.declared.request.Action.TheVariants.{Certify}
use Rattle.hall_policy.specs.declared.request.Request.{Request}
use Rattle.hall_policy.specs.declared.rule.Decision.{Decision}
use Rattle.hall_policy.specs.declared.rule.Decision.TheVariants.{Allow}
use Rattle.hall_policy.specs.declared.rule.Rule.{Rule}
use Rattle.hall_policy.specs.declared.rule.Rule.TheVariants as rule
use Rattle.hall_store.specs.Caller.{caller_of}
use Rattle.hall_store.specs.Store.{Content, Told}
use Rattle.hall_store.specs.declared.fault.StoreFault.{StoreFault}
use Rattle.hall_desk.specs.Lookups.{IsCaller}
use Rattle.hall_desk.specs.declared.wanted_search.Wanted.{Wanted}
use Rattle.hall_grid.specs.Board.{Board}
use Rattle.hall_policy.proofs.Deciding.{decisions_agree}
use Rattle.hall_desk.specs.Memo.{MemoView, Remembers}
use Rattle.hall_desk.specs.Wanted.{IsFoundFor, IsFoundOf, IsPrepared, IsSearchFor}

-- whether the rule speaks of the moment
abbrev pub is_timed : Rule → Bool
is_timed rule.NotStarted = true
is_timed rule.Ended = true
is_timed rule.NotEnded = true
is_timed rule.Closed = true
is_timed rule.Started = true
is_timed _ = false

-- an action that is asked no such rule is allowed at each moment, where it is at one
module _ (world : World) (caller : Option Person) (action : Action) (t later : ℕ)
    (untimed : (r : Rule) → Contains (rules_asked action) r → is_timed r ≡ false)
    (none : NoneDecides world caller action t) where
  unasked : (r : Rule) → is_timed r ≡ true → ¬ (Forbids r world caller action later)
  unasked r timed forbids = false≢true (sym (untimed r forbids.0) ∙ timed)

  pub at_any_moment : NoneDecides world caller action later
  at_any_moment rule.NotStarted below = (unasked rule.NotStarted refl, (none rule.NotStarted below).1)
  at_any_moment rule.Ended below = (unasked rule.Ended refl, (none rule.Ended below).1)
  at_any_moment rule.NotEnded below = (unasked rule.NotEnded refl, (none rule.NotEnded below).1)
  at_any_moment rule.Closed below = (unasked rule.Closed refl, (none rule.Closed below).1)
  at_any_moment rule.Started below = (unasked rule.Started refl, (none rule.Started below).1)
  at_any_moment r below = none r below

certify_untimed : (key : PuzzleKey) (budget : ℕ) (r : Rule) → Contains (rules_asked (Certify key budget)) r
    → is_timed r ≡ false
certify_untimed key budget r (zero, within, is) = ap is_timed (sym is)
certify_untimed key budget r (suc zero, within, is) = ap is_timed (sym is)
certify_untimed key budget r (suc (suc zero), within, is) = ap is_timed (sym is)
certify_untimed key budget r (suc (suc (suc zero)), within, is) = ap is_timed (sym is)
certify_untimed key budget r (suc (suc (suc (suc i))), within, is) = absurd (omega (arith, within))

-- what is remembered of one puzzle and budget is so of the same ones
remembered : (memo : Option MemoView) (puzzle other : Board) (budget limit : ℕ) → puzzle ≡ other → budget ≡ limit
    → Remembers memo puzzle budget → Remembers memo other limit
remembered memo puzzle other budget limit same within is =
    record { found = is.found; is = is.is; same = is.same ∙ same; within = is.within ∙ within }

-- the caller, the decision and the puzzle are those of the store's world
module _ (world : World) (request : Request) (facts : Facts) (sender : List ℕ) (key : PuzzleKey) (budget t : ℕ)
    (asks : request.action ≡ Certify key budget) (sent : request.key ≡ Some sender)
    (caller : IsCaller world request.key facts.caller)
    (decided : IsDecided world facts request.action t Allow) where
  looked_up : facts.puzzle ≡ get world.puzzles key
  looked_up = (subst (λ (a : Action). AreTrue facts world a) asks decided.told).1.1.1.0

  allowed : (later : ℕ) → First world (caller_of world request.key) request.action later Allow
  allowed later =
      subst (λ (who : Option Person). First world who request.action later Allow) caller.found
      (subst (λ (a : Action). First world facts.caller a later Allow) (sym asks)
      (at_any_moment world facts.caller (Certify key budget) t later (certify_untimed key budget)
      (subst (λ (a : Action). First world facts.caller a t Allow) asks decided.first)))

  pub search_asked : (memo : Option MemoView) (found : Option Wanted)
      → IsFoundOf facts.puzzle sender key budget memo found → IsFoundFor world request memo found
  search_asked memo None is = λ wanted needs.
      let named : Certify needs.needs.key needs.needs.budget ≡ Certify key budget = sym needs.needs.asked ∙ asks in
      let same : needs.needs.key ≡ key = cc in
      let within : needs.needs.budget ≡ budget = cc in
      let kept : facts.puzzle ≡ Some needs.needs.row =
      looked_up ∙ ap (get world.puzzles) (sym same) ∙ needs.needs.kept in
      remembered memo _ _ _ _ (sym needs.puzzle) (sym within ∙ sym needs.within)
      (is needs.needs.row kept needs.needs.unsettled)
  search_asked memo (Some search) is = record {
    needs = record {
      key = key;
      budget = budget;
      row = is.row;
      asked = asks;
      allowed = allowed;
      kept = sym looked_up ∙ is.is;
      unsettled = is.unsettled;
    };
    sender = sent ∙ ap Some (sym is.sent);
    name = is.named;
    puzzle = is.puzzle;
    within = is.within;
  }

-- so what is told of a decision is told of the search
pub told_asked : (memo : Option MemoView) (found : Option Wanted) (old new : Content) (request : Request)
    (facts : Facts) (decision : Decision) (sender : List ℕ) (key : PuzzleKey) (budget t : ℕ) →
    request.action ≡ Certify key budget → request.key ≡ Some sender
    → (new.honest → new.serves → IsCaller new.world request.key facts.caller) →
    (new.honest → old.serves → new.serves) × (new.honest → new.serves
    → IsDecided new.world facts request.action t decision) → decision ≡ Allow →
    IsFoundOf facts.puzzle sender key budget memo found → Told {R = Option Wanted} {E = StoreFault} old new
    (Ok found) (λ world. IsFoundFor world request memo)
told_asked memo found old new request facts decision sender key budget t asks sent caller told allows is = (
  told.0,
  (λ h s. search_asked new.world request facts sender key budget t asks sent (caller h s)
      (subst (λ (d : Decision). IsDecided new.world facts request.action t d) allows (told.1 h s)) memo found is),
)

-- a request that the rules don't allow needs no search
pub none_denied : (world : World) (request : Request) (memo : Option MemoView) (facts : Facts) (t : ℕ) (d : Decision)
    → IsCaller world request.key facts.caller → IsDecided world facts request.action t d → d ≢ Allow
    → IsPrepared world request memo
none_denied world request memo facts t d caller decided not wanted is =
    absurd (not (decisions_agree world facts.caller request.action t d Allow decided.first
    (subst (λ (who : Option Person). First world who request.action t Allow) (sym caller.found)
    (is.needs.allowed t))))

-- all searches that a request needs are of one puzzle, within one budget
pub prepared_by : (world : World) (request : Request) (memo : Option MemoView) (wanted : Wanted)
    → IsSearchFor world request wanted → Remembers memo wanted.puzzle wanted.budget → IsPrepared world request memo
prepared_by world request memo wanted first is other second =
    let named : Certify first.needs.key first.needs.budget ≡ Certify second.needs.key second.needs.budget =
    sym first.needs.asked ∙ second.needs.asked in
    let same : first.needs.key ≡ second.needs.key = cc in
    let within : first.needs.budget ≡ second.needs.budget = cc in
    let rows : Some first.needs.row ≡ Some second.needs.row =
    sym first.needs.kept ∙ ap (get world.puzzles) same ∙ second.needs.kept in
    let row : first.needs.row ≡ second.needs.row = cc in
    remembered memo _ _ _ _ (first.puzzle ∙ ap (λ (r : PuzzleRow). r.puzzle) row ∙ sym second.puzzle)
    (first.within ∙ within ∙ sym second.within) is
