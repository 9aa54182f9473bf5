-- Lists that are answered, and runs.
use Rattle.std.proofs.Common.{◌≡◌, ◌≢◌, inl, inr, ℕ, false, List, [], ◌∷◌, Option, Some, map, refl, sym, ap, ◌∙◌, subst}
use Rattle.std.specs.FinMap.{get}
use Rattle.std.proofs.lemmas.Bool.{false≢true}
use Rattle.std.proofs.lemmas.List.Elements.{All-head, All-tail, All-nil, All-cons}
use Rattle.hall_policy.specs.World.{World}
use Rattle.hall_policy.specs.declared.record.Person.{Person}
use Rattle.hall_policy.specs.declared.record.PuzzleKey.{PuzzleKey}
use Rattle.hall_policy.specs.declared.record.PuzzleRow.{PuzzleRow}
use Rattle.hall_policy.specs.declared.record.PuzzleState.{PuzzleState}
use Rattle.hall_policy.specs.declared.request.Action.{Action}
use Rattle.hall_policy.specs.declared.request.Action.TheVariants as action
use Rattle.hall_policy.specs.declared.request.Request.{Request}
use Rattle.hall_policy.specs.declared.rule.Decision.{Decision}
use Rattle.hall_policy.specs.declared.rule.Decision.TheVariants.{Allow, Repeat, Deny}
use Rattle.hall_store.specs.Caller.{caller_of}
use Rattle.hall_desk.specs.Step.{Asked, Allowed, Decided, FirstReply, is_open}
use Rattle.hall_desk.specs.Run.{Run}
use Rattle.hall_desk.specs.AnsweredRun.{AnsweredRun, timed, RunsAreAnswered}
use Rattle.hall_desk.specs.Without.{Serve}
use Rattle.hall_desk.specs.declared.reply.Reply.{Reply}
use Rattle.hall_desk.specs.declared.reply.Reply.TheVariants as reply
use Rattle.hall_desk.proofs.OthersAlike.{run_of}

-- whether the reply serves
serves : Reply → Type 0
serves reply.Unavailable = ⊥
serves _ = Unit {0}

served : (given : Reply) → serves given → given ≢ reply.Unavailable
unfolding serves
served given h e = subst serves e h

told : (given other : Reply) → serves other → given ≡ other → given ≢ reply.Unavailable
unfolding serves
told given other h e = served given (subst serves (sym e) h)

allowed_serves : (world : World) (caller : Option Person) (a : Action) (t : ℕ) (found : PuzzleState) (given : Reply)
    (new : World) → Allowed world caller a t found given new → given ≢ reply.Unavailable
unfolding serves
allowed_serves world caller (action.Import people) t found given new h = told given _ tt h.0
allowed_serves world caller (action.PutPuzzle key puzzle) t found given new (text, canonical, inl h) = told given _ tt
    h.3
allowed_serves world caller (action.PutPuzzle key puzzle) t found given new (text, canonical, inr h) = told given _ tt
    h.1
allowed_serves world caller (action.ReadPuzzle key) t found given new h = told given _ tt h.0.4
allowed_serves world caller action.ListPuzzles t found given new h = told given _ tt h.2.0
allowed_serves world caller (action.Certify key budget) t found given new (row, at, inl h) = told given _ tt h.told
allowed_serves world caller (action.Certify key budget) t found given new (row, at, inr h) = told given _ tt h.told
allowed_serves world caller (action.PutRound id sheet) t found given new h = told given _ tt h.0
allowed_serves world caller (action.Release id) t found given new h = told given _ tt h.2
allowed_serves world caller action.ListRounds t found given new h = told given _ tt h.2.0
allowed_serves world caller (action.ReadRound id) t found given new h = told given _ tt h.0.4
allowed_serves world caller (action.Submit id number token answer) t found given new
    (person, is, (round, entry, puzzle, verdict, at, place, grid, judged, (says, made))) = told given _ tt says
allowed_serves world caller (action.Answers id) t found given new h = told given _ tt h.2.0.4
allowed_serves world caller (action.Solutions id) t found given new h = told given _ tt h.0.4
allowed_serves world caller (action.Protest id token number text) t found given new (person, is, (says, made)) = told
    given _ tt says
allowed_serves world caller (action.Protests id) t found given new h = told given _ tt h.2.0
allowed_serves world caller (action.RuleProtest id entrant token ruling) t found given new h = told given _ tt h.2
allowed_serves world caller (action.Publish id) t found given new h = told given _ tt h.2
allowed_serves world caller (action.Table id) t found given new h = told given _ tt h.0.2

first_serves : (world : World) (caller : Option Person) (a : Action) (given : Reply) → FirstReply world caller a given
    → given ≢ reply.Unavailable
unfolding serves
first_serves world caller (action.Submit id number token answer) given (person, is, (round, row, kept, at, says)) = told
    given _ tt says
first_serves world caller (action.Protest id token number text) given (person, is, (row, at, says)) = told given _ tt
    says
first_serves world caller (action.RuleProtest id entrant token ruling) given (row, ruled, at, has, says) = told given _
    tt says
first_serves world caller _ given h = absurd h

pub decided_serves : (d : Decision) (world : World) (caller : Option Person) (a : Action) (t : ℕ) (found : PuzzleState)
    (given : Reply) (new : World) → Decided d world caller a t found given new → given ≢ reply.Unavailable
unfolding serves
decided_serves (Deny k) world caller a t found given new h = told given _ tt h.0
decided_serves Repeat world caller a t found given new h = first_serves world caller a given h.0
decided_serves Allow world caller a t found given new h = allowed_serves world caller a t found given new h

all_serve : (world last : World) (list : List Asked) (replies : List Reply) → AnsweredRun world list replies last
    → Serve replies
all_serve world last [] [] run = All-nil (λ given. given ≢ reply.Unavailable)
all_serve world last [] (g ∷ replies) run = absurd run
all_serve world last (q ∷ list) [] run = absurd run
all_serve world last (q ∷ list) (g ∷ replies) run =
    All-cons (λ given. given ≢ reply.Unavailable) g replies
    (decided_serves run.1.0 world (caller_of world q.request.key) q.request.action q.moment q.found g run.0 run.1.2)
    (all_serve run.0 last list replies run.2)

pub answered_list : (world last : World) (requests : List (ℕ × Request)) (replies : List Reply)
    → Run world requests replies last → Serve replies →
    (list : List Asked) × (map timed list ≡ requests) × AnsweredRun world list replies last
answered_list world last [] [] run serve = ([], refl, run)
answered_list world last [] (g ∷ replies) run serve = absurd run
answered_list world last (q ∷ requests) [] run serve = absurd run
answered_list world last (q ∷ requests) (g ∷ replies) (next, inl refused, run) serve = absurd
    (All-head (λ given. given ≢ reply.Unavailable) g replies serve refused.0)
answered_list world last (q ∷ requests) (g ∷ replies) (next, inr (found, answered), run) serve =
    let later = answered_list next last requests replies run
    (All-tail (λ given. given ≢ reply.Unavailable) g replies serve) in
    let asked : Asked = record { moment = q.0; request = q.1; found = found } in
    (asked ∷ later.0, ap (λ rest. q ∷ rest) later.1, (next, answered, later.2))

-- what an action answers that runs no search doesn't rest on what one would find
unread_by : (world new : World) (caller : Option Person) (a : Action) (t : ℕ) (found other : PuzzleState)
    (given : Reply) →
    ((key : PuzzleKey) (budget : ℕ) (row : PuzzleRow) → a ≡ action.Certify key budget → get world.puzzles key ≡ Some row
    → is_open row.state ≡ false) →
    Allowed world caller a t found given new → Allowed world caller a t other given new
unread_by world new caller (action.Certify key budget) t found other given none (row, at, inl h) = absurd
    (false≢true (sym (none key budget row refl at) ∙ h.unsettled))
unread_by world new caller (action.Certify key budget) t found other given none (row, at, inr h) = (row, at, inr h)
unread_by world new caller (action.Import people) t found other given none h = h
unread_by world new caller _ t found other given none h = h

unread_decided : (d : Decision) (world new : World) (caller : Option Person) (a : Action) (t : ℕ)
    (found other : PuzzleState) (given : Reply) →
    ((key : PuzzleKey) (budget : ℕ) (row : PuzzleRow) → a ≡ action.Certify key budget → get world.puzzles key ≡ Some row
    → is_open row.state ≡ false) →
    Decided d world caller a t found given new → Decided d world caller a t other given new
unread_decided (Deny k) world new caller a t found other given none h = h
unread_decided Repeat world new caller a t found other given none h = h
unread_decided Allow world new caller a t found other given none h = unread_by world new caller a t found other given
    none h

pub runs_are_answered : RunsAreAnswered
runs_are_answered = record {
  run = λ world last list replies run. (run_of world last list replies run, all_serve world last list replies run);
  answered = answered_list;
  unread = λ world new asked found given none h. (
    h.0,
    h.1,
    unread_decided h.0 world new (caller_of world asked.request.key) asked.request.action asked.moment
        asked.found found given none h.2,
  );
}
