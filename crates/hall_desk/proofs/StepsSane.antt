-- Each step, and so each run, keeps a sane world.
use Rattle.std.proofs.Common.{◌≡◌, ◌<◌, inl, inr, ℕ, List, [], ◌∷◌, Option, Some, None, refl, sym, ◌∙◌, subst, arith}
use Rattle.std.proofs.Common.{lit<, Result, Ok, Err, IfOk}
use Rattle.std.specs.Prelude.{All}
use Rattle.std.proofs.lemmas.List.Elements.{All-head, All-tail}
use Rattle.std.proofs.Math.Nat.{lt_of_not-le}
use Rattle.std.specs.FinMap.{get}
use Rattle.hall_policy.specs.Limits.{most_answers}
use Rattle.hall_policy.specs.World.{World, same_text}
use Rattle.hall_policy.specs.Ranges.{IsMoment, IsAnswerRow, IsAction, IsRequest}
use Rattle.hall_policy.specs.Rules.{answers_given}
use Rattle.hall_policy.specs.First.{NoneDecides}
use Rattle.hall_policy.specs.declared.rule.Rule.TheVariants as rule
use Rattle.hall_policy.specs.declared.rule.Decision.TheVariants.{Allow, Repeat, Deny}
use Rattle.hall_policy.specs.declared.record.Person.{Person}
use Rattle.hall_policy.specs.declared.record.PuzzleKey.{PuzzleKey}
use Rattle.hall_policy.specs.declared.record.PuzzleState.{PuzzleState}
use Rattle.hall_policy.specs.declared.record.AnswerRow.{AnswerRow}
use Rattle.hall_policy.specs.declared.request.Action.{Action}
use Rattle.hall_policy.specs.declared.request.Action.TheVariants as action
use Rattle.hall_policy.specs.declared.request.Request.{Request}
use Rattle.hall_grid.specs.Board.{Board}
use Rattle.hall_grid.specs.Rule.{IsNameSet}
use Rattle.hall_grid.specs.Answer.{Verdict}
use Rattle.hall_policy.proofs.Orders.{text_total}
use Rattle.hall_store.specs.Caller.{caller_of}
use Rattle.hall_desk.specs.Step.{Step, Allowed, new_row, answer_row}
use Rattle.hall_desk.specs.Run.{IsTimed, Run}
use Rattle.hall_store.specs.Store.{Content, Asks}
use Rattle.hall_desk.specs.Plan.{planned_change}
use Rattle.hall_desk.specs.Plans.{Planned, IsStepOver}
use Rattle.hall_desk.specs.declared.plan.Plan.{Plan}
use Rattle.hall_store.specs.Change.{changed}
use Rattle.hall_desk.specs.Sane.{Sane}
use Rattle.hall_desk.specs.declared.reply.Reply.{Reply}
use Rattle.hall_desk.proofs.Answering.{find-value}
use Rattle.hall_desk.proofs.Saneness.{put_sane, submit_sane}
use Rattle.hall_desk.proofs.CertifySane.{certify_step}
use Rattle.hall_desk.proofs.ImportSane.{import_step}
use Rattle.hall_desk.proofs.DraftSane.{put_round_step}
use Rattle.hall_desk.proofs.ReleaseSane.{release_step}
use Rattle.hall_desk.proofs.Releases.{released_found, takes_part}
use Rattle.hall_desk.proofs.ProtestSane.{protest_step, rule_step}
use Rattle.hall_desk.proofs.PublishSane.{publish_step}
use Rattle.hall_desk.proofs.Promises.{verdicts_are_judged}

-- the caller is there, under the caller's name
pub caller_there : (world : World) → Sane world → (key : Option (List ℕ)) (person : Person)
    → caller_of world key ≡ Some person → get world.people person.name ≡ Some person
caller_there world sane None person e = let no : None ≡ Some person = e in absurd (cc)
caller_there world sane (Some key) person e =
    let under = find-value text_total (λ p. same_text p.key key) world.people person e in
    let own : person.name ≡ under.0 = sane.typed.people under.0 person under.1 in
    subst (λ (name : List ℕ). get world.people name ≡ Some person) (sym own) under.1

put_step : (world : World) (caller : Option Person) (key : PuzzleKey) (puzzle : Board) (t : ℕ) (found : PuzzleState)
    (given : Reply) (new : World) → Sane world →
    IsAction (action.PutPuzzle key puzzle) → NoneDecides world caller (action.PutPuzzle key puzzle) t
    → Allowed world caller (action.PutPuzzle key puzzle) t found given new → Sane new
put_step world caller key puzzle t found given new sane is none (text, canonical, inl h) = subst Sane (sym h.4) sane
put_step world caller key puzzle t found given new sane is none (text, canonical, inr h) =
    subst Sane (sym h.2)
    (put_sane world key (new_row key puzzle) refl (record { key = is.0; puzzle = is.1; state = tt }) tt sane
    (λ gone. (none rule.Missing (lit< tt)).0 (
      (3, lit< tt, refl),
      λ person there. absurd
          (let no : None ≡ Some person = sym gone ∙ there in cc),
    ))
    (λ id stands. (none rule.InReleasedRound (lit< tt)).0 ((4, lit< tt, refl), (id, stands)))
    (λ fresh. lt_of_not-le (λ many. (none rule.LimitReached (lit< tt)).0 ((5, lit< tt, refl), (fresh, many)))))

-- a verdict is a set of names of the table
verdict_set : (board : Board) (text : List ℕ) (names : ℕ) → Verdict board text names → IsNameSet names
verdict_set board text names (inl (f, says, broken)) = broken.set
verdict_set board text names (inr (none, no_form)) = no_form.set

submit_step : (world : World) (caller : Option Person) (id : List ℕ) (number : ℕ) (token answer : List ℕ) (t : ℕ)
    (found : PuzzleState) (given : Reply) (new : World) → Sane world →
    ((person : Person) → caller ≡ Some person → get world.people person.name ≡ Some person) → IsMoment t
    → IsAction (action.Submit id number token answer) →
    NoneDecides world caller (action.Submit id number token answer) t
    → Allowed world caller (action.Submit id number token answer) t found given new → Sane new
submit_step world caller id number token answer t found given new sane there timed asked none
    (person, is, (round, entry, puzzle, verdict, kept, place, grid, told, (reply, made))) =
    let judged : Verdict puzzle.puzzle answer verdict = verdicts_are_judged world sane entry.puzzle puzzle answer
    verdict grid told in
    let row : AnswerRow = answer_row world person id number token answer t verdict in
    let fresh : get world.answers row.key ≡ None = elim (get world.answers row.key) as
    (λ (o : Option AnswerRow). get world.answers row.key ≡ o → o ≡ None) [
      | None ↦ λ e. refl
      | Some r ↦ λ e. absurd ((none rule.TokenTaken (lit< tt)).0 (
        (4, lit< tt, refl),
        (
          (person, is, (r, e)),
          (λ same. (none rule.TokenTaken (lit< tt)).1
              ((4, lit< tt, refl), same)),
        ),
      ))
    ] refl in
    let released = released_found world caller (action.Submit id number token answer) id refl
    (λ missing. (none rule.Missing (lit< tt)).0 ((2, lit< tt, refl), inl missing)) in
    let room : answers_given world person.name id number < most_answers =
    lt_of_not-le (λ many. (none rule.LimitReached (lit< tt)).0 ((8, lit< tt, refl), (person, is, many))) in
    let in_range : IsAnswerRow row = record {
      key = record {
        entrant = (sane.typed.in_range.people person.name person (there person is)).name;
        round = asked.0;
        number = asked.1;
        token = asked.2;
      };
      n = (omega arith, omega (arith, room));
      moment = timed;
      answer = asked.3;
      verdict = verdict_set puzzle.puzzle answer verdict judged;
    } in
    subst Sane (sym made)
    (submit_sane world row sane in_range fresh
    (λ gone. let no_one : Some person ≡ None = sym (there person is) ∙ gone in cc)
    released
    (takes_part world caller (action.Submit id number token answer) person id is (there person is) refl refl released
    (λ lacks. (none rule.NoRole (lit< tt)).0 ((1, lit< tt, refl), lacks))
    (λ reads. reads) (λ own. (none rule.OwnPuzzle (lit< tt)).0 ((3, lit< tt, refl), own)))
    (entry, puzzle, place, grid, judged) refl room)

allowed_sane : (world : World) (caller : Option Person) (asked : Action) (t : ℕ) (found : PuzzleState) (given : Reply)
    (new : World) → Sane world →
    ((person : Person) → caller ≡ Some person → get world.people person.name ≡ Some person) → IsMoment t
    → IsAction asked →
    NoneDecides world caller asked t → Allowed world caller asked t found given new → Sane new
allowed_sane world caller (action.PutPuzzle key puzzle) t found given new sane there timed is none h = put_step world
    caller key puzzle t found given new sane is none h
allowed_sane world caller (action.Submit id number token answer) t found given new sane there timed is none h =
    submit_step world caller id number token answer t found given new sane there timed is none h
allowed_sane world caller (action.ReadRound id) t found given new sane there timed is none h = subst Sane (sym h.1) sane
allowed_sane world caller (action.Answers id) t found given new sane there timed is none h = subst Sane (sym h.2.1) sane
allowed_sane world caller (action.Import people) t found given new sane there timed is none h = import_step world caller
    people t found given new sane is none h
allowed_sane world caller (action.ReadPuzzle key) t found given new sane there timed is none h = subst Sane (sym h.1)
    sane
allowed_sane world caller action.ListPuzzles t found given new sane there timed is none h = subst Sane (sym h.2.1) sane
allowed_sane world caller (action.Certify key budget) t found given new sane there timed is none h = certify_step world
    caller key budget t found given new sane h
allowed_sane world caller (action.PutRound id sheet) t found given new sane there timed is none h = put_round_step world
    caller id sheet t found given new sane is none h
allowed_sane world caller (action.Release id) t found given new sane there timed is none h = release_step world caller
    id t found given new sane none h
allowed_sane world caller action.ListRounds t found given new sane there timed is none h = subst Sane (sym h.2.1) sane
allowed_sane world caller (action.Solutions id) t found given new sane there timed is none h = subst Sane (sym h.1) sane
allowed_sane world caller (action.Protest id token number text) t found given new sane there timed is none h =
    protest_step world caller id token number text t found given new sane there is none h
allowed_sane world caller (action.Protests id) t found given new sane there timed is none h = subst Sane (sym h.2.1)
    sane
allowed_sane world caller (action.RuleProtest id entrant token ruling) t found given new sane there timed is none h =
    rule_step world caller id entrant token ruling t found given new sane is h
allowed_sane world caller (action.Publish id) t found given new sane there timed is none h = publish_step world caller
    id t found given new sane none h
allowed_sane world caller (action.Table id) t found given new sane there timed is none h = subst Sane (sym h.1) sane

-- a step keeps a sane world
pub step_sane : (world : World) (t : ℕ) (request : Request) (given : Reply) (new : World) → IsMoment t
    → IsRequest request → Step world t request given new → Sane world → Sane new
step_sane world t request given new timed is (inl h) sane = subst Sane (sym h.1) sane
step_sane world t request given new timed is (inr (found, (Deny k, first, decided))) sane = subst Sane (sym decided.1)
    sane
step_sane world t request given new timed is (inr (found, (Repeat, first, decided))) sane = subst Sane (sym decided.1)
    sane
step_sane world t request given new timed is (inr (found, (Allow, first, decided))) sane =
    allowed_sane world (caller_of world request.key) request.action t found given new sane
    (caller_there world sane request.key) timed is.action first decided

-- a run keeps a sane world
pub run_sane : (world : World) (requests : List (ℕ × Request)) (replies : List Reply) (last : World)
    → All IsTimed requests → Run world requests replies last → Sane world → Sane last
run_sane world [] [] last timed run sane = subst Sane (sym run) sane
run_sane world [] (r ∷ replies) last timed run sane = absurd run
run_sane world (q ∷ requests) [] last timed run sane = absurd run
run_sane world (q ∷ requests) (r ∷ replies) last timed run sane =
    let is = All-head IsTimed q requests timed in
    run_sane run.0 requests replies last (All-tail IsTimed q requests timed) run.2
    (step_sane world q.0 q.1 r run.0 is.moment is.request run.1 sane)

-- a step over a store keeps its world sane
pub steps_sane : (old new : Content) (t : ℕ) (request : Request) (given : Reply) → IsMoment t → IsRequest request
    → new.serves → IsStepOver old t request given new → Sane old.world → Sane new.world
steps_sane old new t request given timed is s (inl (always, left)) sane = subst Sane (sym (left s)) sane
steps_sane old new t request given timed is s (inr (before, after, step)) sane = step_sane old.world t request given
    new.world timed is step sane

-- a plan's change keeps a sane world
pub plan_sane : {E : Type 0} (r : Result Plan E) (new : Content) (t : ℕ) (request : Request) → IsMoment t
    → IsRequest request → Planned new t request r →
    IfOk r (λ plan. Asks new (λ world. Sane world → Sane (changed (planned_change plan) world)))
plan_sane (Ok plan) new t request timed is (inl made) = λ h s. step_sane new.world t request plan.reply
    (changed plan.change new.world) timed is (inr (made h).1.answered)
plan_sane (Ok plan) new t request timed is (inr made) = λ h s. step_sane new.world t request plan.reply
    (changed plan.change new.world) timed is (inr (made.1 new.world).answered)
plan_sane (Err e) new t request timed is made = tt
