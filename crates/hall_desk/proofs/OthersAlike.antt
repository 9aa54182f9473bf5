-- Of others who hold the role entrant alone, an entrant learns nothing.
use Rattle.std.proofs.Common.{◌≡◌, inl, inr, if◌then◌else◌, ℕ, Bool, true, false, cond, not, List, [], ◌∷◌, Option}
use Rattle.std.proofs.Common.{Some, map, refl, sym, ap, ◌∙◌, subst}
use Rattle.std.specs.Prelude.{All}
use Rattle.std.specs.FinMap.{get}
use Rattle.std.proofs.lemmas.List.Elements.{All-head, All-tail}
use Rattle.hall_policy.specs.World.{World}
use Rattle.hall_policy.specs.Ranges.{IsWorld}
use Rattle.hall_policy.specs.declared.record.Person.{Person}
use Rattle.hall_policy.specs.declared.record.PuzzleState.{PuzzleState}
use Rattle.hall_policy.specs.declared.request.Action.{Action}
use Rattle.hall_policy.specs.declared.request.Action.TheVariants as action
use Rattle.hall_policy.specs.declared.request.Request.{Request}
use Rattle.hall_policy.specs.declared.rule.Decision.{Decision}
use Rattle.hall_policy.specs.declared.rule.Decision.TheVariants.{Allow, Repeat, Deny}
use Rattle.hall_store.specs.Caller.{caller_of}
use Rattle.hall_desk.specs.Run.{IsTimed, Run}
use Rattle.hall_desk.specs.Sane.{Sane}
use Rattle.hall_desk.specs.Step.{Asked, IsAnswered, Step, Decided}
use Rattle.hall_policy.specs.OwnAlike.{is_entrant_alone, as_is}
use Rattle.hall_desk.specs.Alike.{AlikeFor}
use Rattle.hall_desk.specs.AnsweredRun.{AnsweredRun, timed, left_in, OthersHiddenInAnswers}
use Rattle.hall_desk.specs.Without.{GrantsNoPublication, has_key, replies_to, is_other_person}
use Rattle.hall_desk.specs.declared.reply.Reply.{Reply}
use Rattle.hall_desk.specs.History.{events_of}
use Rattle.hall_desk.specs.Records.{KeptRecords}
use Rattle.hall_desk.proofs.Histories.{runs_are_histories}
use Rattle.hall_desk.proofs.Remaining.{records_stay}
use Rattle.hall_desk.proofs.StepsSane.{step_sane, run_sane}
use Rattle.hall_desk.proofs.StepsAlike.{plain_answers}
use Rattle.hall_desk.proofs.OthersSteps.{nothing, asks_as, not_own, e_calls, AlikeIn, looks_alike, asks_publication}
use Rattle.hall_desk.proofs.OthersSteps.{answered_without, answered_with}

-- ---- runs
-- what is answered is a step
pub step_of : (world next : World) (asked : Asked) (given : Reply) → IsAnswered world asked given next
    → Step world asked.moment asked.request given next
step_of world next asked given h = inr (asked.found, h)

-- and a list that is answered is run
pub run_of : (world last : World) (list : List Asked) (replies : List Reply) → AnsweredRun world list replies last
    → Run world (map timed list) replies last
run_of world last [] [] run = run
run_of world last [] (g ∷ replies) run = absurd run
run_of world last (q ∷ list) [] run = absurd run
run_of world last (q ∷ list) (g ∷ replies) run = (
  run.0,
  step_of world run.0 q g run.1,
  run_of run.0 last list replies
      run.2,
)

-- what is kept when the list begins is kept at its end
pub run_remains : (world : World) (list : List (ℕ × Request)) (replies : List Reply) (last : World)
    → Run world list replies last → KeptRecords world last
run_remains world list replies last run = records_stay world last (events_of list replies)
    (runs_are_histories world last list replies run)

-- ---- a publication that isn't granted
-- it leaves the world
refused_leaves : (world : World) (caller : Option Person) (t : ℕ) (id : List ℕ) (d : Decision) (found : PuzzleState)
    (given : Reply) (new : World) → GrantsNoPublication given →
    Decided d world caller (action.Publish id) t found given new → new ≡ world
refused_leaves world caller t id (Deny k) found given new none h = h.1
refused_leaves world caller t id Repeat found given new none h = h.1
refused_leaves world caller t id Allow found given new none (round, at, told, made) = absurd (none id told)

-- of no round it is said that no other hands in to it
abbrev pub no_round : List ℕ → Bool
no_round id = false

module _ (last : World) (e : Person) (settled : IsWorld last) (there : get last.people e.name ≡ Some e)
    (alone : is_entrant_alone e ≡ true) where
  abbrev pub Alike : World → World → Type 0
  Alike world other = AlikeIn last e settled there alone no_round world other

  -- ---- lists
  -- the first request
  module _ (q : Asked) (rest : List Asked) (world other : World) (given : Reply) (replies : List Reply)
      (sane : Sane world) (also : Sane other) (alike : Alike world other)
      (typed : All IsTimed (map timed (q ∷ rest))) (never : All GrantsNoPublication (given ∷ replies))
      (run : AnsweredRun world (q ∷ rest) (given ∷ replies) last) where
    pub remains : KeptRecords world last
    remains = run_remains world (map timed (q ∷ rest)) (given ∷ replies) last
        (run_of world last (q ∷ rest) (given ∷ replies) run)

    pub head_timed : IsTimed (timed q)
    head_timed = All-head IsTimed (timed q) (map timed rest) typed

    pub still_sane : Sane run.0
    still_sane = step_sane world q.moment q.request given run.0 head_timed.moment head_timed.request
        (step_of world run.0 q given run.1) sane

    -- where it is left out, what stays is alike
    pub alike_without : is_other_person e (caller_of last q.request.key) ≡ true → Alike run.0 other
    alike_without is_other = answered_without last e settled there alone no_round world run.0 other q given remains
        alike run.1 (λ id handed. refl) is_other

    -- and where both make it
    pub alike_with : is_other_person e (caller_of last q.request.key) ≡ false → (answered : Reply) (after : World)
        → GrantsNoPublication answered → IsAnswered other q answered after → Alike run.0 after
    alike_with kept answered after none done = elim (asks_publication q.request.action) [
      | inl (id, asked) ↦
          subst (λ (w : World). Alike run.0 w) (sym (refused_leaves other (caller_of other q.request.key) q.moment id
          done.0 q.found answered after none
          (subst (λ (x : Action). Decided done.0 other (caller_of other q.request.key) x q.moment q.found answered
          after) asked done.2)))
          (subst (λ (w : World). Alike w other) (sym (refused_leaves world (caller_of world q.request.key) q.moment id
          run.1.0 q.found given run.0 (All-head GrantsNoPublication given replies never)
          (subst (λ (x : Action). Decided run.1.0 world (caller_of world q.request.key) x q.moment q.found given run.0)
          asked run.1.2))) alike)
      | inr never_asked ↦ answered_with last e settled there alone no_round world other run.0 after q given answered
          sane.typed also.typed remains alike never_asked kept run.1 done
    ]

    pub sane_with : (answered : Reply) (after : World) → IsAnswered other q answered after → Sane after
    sane_with answered after done = step_sane other q.moment q.request answered after head_timed.moment
        head_timed.request (step_of other after q answered done) also

  abbrev Claim : List Asked → Type 0
  Claim list = (world other end : World) (replies others : List Reply) → Sane world → Sane other → Alike world other
      → All IsTimed (map timed list) → All GrantsNoPublication replies → All GrantsNoPublication others →
      AnsweredRun world list replies last → AnsweredRun other (left_in last e list) others end →
      replies_to e.key (map timed list) replies ≡ replies_to e.key (map timed (left_in last e list)) others

  -- the first request is left out
  leave_out : (q : Asked) (rest : List Asked) (world other end : World) (given : Reply) (replies others : List Reply)
      → Claim rest → Sane world → Sane other → Alike world other →
      All IsTimed (map timed (q ∷ rest)) → All GrantsNoPublication (given ∷ replies) → All GrantsNoPublication others →
      AnsweredRun world (q ∷ rest) (given ∷ replies) last → is_other_person e (caller_of last q.request.key) ≡ true
      → AnsweredRun other (left_in last e rest) others end →
      replies_to e.key (map timed (q ∷ rest)) (given ∷ replies) ≡ replies_to e.key (map timed (left_in last e rest))
      others
  leave_out q rest world other end given replies others claim sane also alike typed never none run is_other left =
      let tail : List Reply = replies_to e.key (map timed rest) replies in
      ap (λ (b : Bool). if b then given ∷ tail else tail) (not_own last e settled there alone q.request.key is_other)
      ∙ claim run.0 other end replies others (still_sane q rest world other given replies sane also alike typed never
      run) also
      (alike_without q rest world other given replies sane also alike typed never run is_other)
      (All-tail IsTimed (timed q) (map timed rest) typed) (All-tail GrantsNoPublication given replies never) none run.2
      left

  -- the first request is made in both
  make_both : (q : Asked) (rest : List Asked) (world other end : World) (given : Reply) (replies others : List Reply)
      → Claim rest → Sane world → Sane other → Alike world other →
      All IsTimed (map timed (q ∷ rest)) → All GrantsNoPublication (given ∷ replies) → All GrantsNoPublication others →
      AnsweredRun world (q ∷ rest) (given ∷ replies) last → is_other_person e (caller_of last q.request.key) ≡ false
      → AnsweredRun other (q ∷ left_in last e rest) others end →
      replies_to e.key (map timed (q ∷ rest)) (given ∷ replies) ≡ replies_to e.key (map timed (q ∷ left_in last e rest))
      others
  make_both q rest world other end given replies [] claim sane also alike typed never none run kept left = absurd left
  make_both q rest world other end given replies (answered ∷ others) claim sane also alike typed never none run kept
      left =
      let next : World = run.0 in
      let after : World = left.0 in
      let ours : List Reply = replies_to e.key (map timed rest) replies in
      let theirs : List Reply = replies_to e.key (map timed (left_in last e rest)) others in
      let tail : ours ≡ theirs =
      claim next after end replies others (still_sane q rest world other given replies sane also alike typed never run)
      (sane_with q rest world other given replies sane also alike typed never run answered after left.1)
      (alike_with q rest world other given replies sane also alike typed never run kept answered after
      (All-head GrantsNoPublication answered others none) left.1)
      (All-tail IsTimed (timed q) (map timed rest) typed) (All-tail GrantsNoPublication given replies never)
      (All-tail GrantsNoPublication answered others none) run.2 left.2 in
      elim (has_key e.key q.request.key) as (λ b. has_key e.key q.request.key ≡ b
      → (if b then given ∷ ours else ours) ≡ (if b then answered ∷ theirs else theirs)) [
        | true ↦ λ own.
            let same : given ≡ answered = plain_answers nothing world other alike.people alike.rounds alike.places
            alike.testers sane.typed also.typed e alone q q refl refl
            (looks_alike last e settled there alone no_round world other q.moment sane.typed also.typed alike)
            (e_calls last e settled there alone world (remains q rest world other given replies sane also alike typed
            never run) q.request.key (asks_as e.key q.request.key own)) given answered next after run.1 left.1 in
            ap (λ (g : Reply). g ∷ ours) same ∙ ap (λ (gs : List Reply). answered ∷ gs) tail
        | false ↦ λ not_own. tail
      ] refl

  pub others_from : (list : List Asked) → Claim list
  others_from [] world other end replies others sane also alike typed never none run left = refl
  others_from (q ∷ rest) world other end [] others sane also alike typed never none run left = absurd run
  others_from (q ∷ rest) world other end (given ∷ replies) others sane also alike typed never none run left =
      elim (is_other_person e (caller_of last q.request.key)) as
      (λ b. is_other_person e (caller_of last q.request.key) ≡ b →
      AnsweredRun other (cond (not b) (q ∷ left_in last e rest) (left_in last e rest)) others end →
      replies_to e.key (map timed (q ∷ rest)) (given ∷ replies) ≡ replies_to e.key
      (map timed (cond (not b) (q ∷ left_in last e rest) (left_in last e rest))) others) [
        | true ↦ λ is_other made. leave_out q rest world other end given replies others (others_from rest) sane also
            alike typed never none run is_other made
        | false ↦ λ kept made. make_both q rest world other end given replies others (others_from rest) sane also alike
            typed never none run kept made
      ] refl left

pub alike_itself : (hidden : List ℕ → Bool) (Kept : List ℕ → List ℕ → Type 0) (world : World)
    → AlikeFor as_is hidden Kept world world
alike_itself hidden Kept world = record {
  people = refl;
  puzzles = refl;
  rounds = refl;
  places = refl;
  testers = refl;
  answers = λ key k. refl;
  protests = λ key k. refl;
}

-- the law
pub others_hidden : OthersHiddenInAnswers
others_hidden world last end e list replies others sane typed there alone run left never none =
    let settled : Sane last = run_sane world (map timed list) replies last typed (run_of world last list replies run)
    sane in
    others_from last e settled.typed there alone list world world end replies others sane sane (alike_itself _ _ world)
    typed never none run left
