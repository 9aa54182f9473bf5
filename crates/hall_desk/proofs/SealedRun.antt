-- Until a sealed round's end, which of two texts is the answer is hidden: said of runs.
use Rattle.std.proofs.Common.{◌≡◌, ◌≢◌, ◌<◌, if◌then◌else◌, ℕ, true, List, [], ◌∷◌, map, refl, sym, ap, ◌∙◌, subst}
use Rattle.std.specs.Prelude.{All, Some}
use Rattle.std.specs.FinMap.{get}
use Rattle.std.proofs.lemmas.List.Elements.{All-head, All-tail}
use Rattle.hall_policy.specs.World.{World, end_of}
use Rattle.hall_policy.specs.Ranges.{IsWorld, IsAnswer}
use Rattle.hall_policy.specs.OwnAlike.{is_entrant_alone, exchanged}
use Rattle.hall_policy.specs.declared.record.Person.{Person}
use Rattle.hall_policy.specs.declared.record.Round.{Round}
use Rattle.hall_policy.specs.declared.request.Action.{Action}
use Rattle.hall_policy.specs.declared.request.Action.TheVariants as action
use Rattle.hall_policy.specs.declared.request.Request.{Request}
use Rattle.hall_desk.specs.Run.{IsTimed, Run}
use Rattle.hall_desk.specs.Sane.{Sane}
use Rattle.hall_desk.specs.Shown.{is_sealed}
use Rattle.hall_desk.specs.Step.{Asked}
use Rattle.hall_desk.specs.Without.{replies_where, replies_to, is_certify, certifies, Serve}
use Rattle.hall_desk.specs.Exchanged.{swapped, exchanged_list, exchanged_replies, IsSealedRound}
use Rattle.hall_desk.specs.AnsweredRun.{AnsweredRun, timed, exchanged_asked}
use Rattle.hall_desk.specs.Secrecy.{HidesAnswers, SealedRuns, LivesHideAnswers}
use Rattle.hall_desk.specs.declared.reply.Reply.{Reply}
use Rattle.hall_desk.specs.declared.reply.Reply.TheVariants as reply
use Rattle.hall_desk.proofs.EmptySane.{empty_sane}
use Rattle.hall_desk.proofs.Histories.{history_sane}
use Rattle.hall_desk.proofs.StepsSane.{run_sane}
use Rattle.hall_desk.proofs.StepsAlike.{served}
use Rattle.hall_desk.proofs.SealedAlike.{Alike, HasNone, still_sane, still_kept, has_none, sane_with, none_with}
use Rattle.hall_desk.proofs.SealedAlike.{alike_with, alike_at_first, sealed_answers}
use Rattle.hall_desk.proofs.AnsweredRuns.{answered_list}
use Rattle.hall_desk.proofs.Searches.{same_answer, heads_alike}

-- the exchanged list
turned_timed : (r a b : List ℕ) (list : List Asked) → map timed (map (exchanged_asked (swapped r a b)) list) ≡
    exchanged_list r a b (map timed list)
turned_timed r a b [] = refl
turned_timed r a b (q ∷ rest) = ap (λ (rs : List (ℕ × Request)). timed (exchanged_asked (swapped r a b) q) ∷ rs)
    (turned_timed r a b rest)

-- an exchanged request certifies where the request does
pub as_before : (ex : List ℕ → List ℕ → List ℕ) (q : Asked) → certifies (timed (exchanged_asked ex q)) ≡ certifies
    (timed q)
as_before ex q = of_action q.request.action
  where
    of_action : (act : Action) → is_certify (exchanged ex act) ≡ is_certify act
    of_action (action.Import people) = refl
    of_action _ = refl

module _ (last : World) (e : Person) (settled : IsWorld last) (there : get last.people e.name ≡ Some e)
    (alone : is_entrant_alone e ≡ true)
    (r a b : List ℕ) (is_a : IsAnswer a) (is_b : IsAnswer b) (round : Round) (released : round.released ≡ true)
    (sealed : is_sealed round.mode ≡ true) where
  abbrev turned : List Asked → List Asked
  turned list = map (exchanged_asked (swapped r a b)) list

  -- the run of the exchanged list is answered by what the searches of the list find
  abbrev Claim : List Asked → Type 0
  Claim list = (world other end : World) (replies others : List Reply) → Sane world → Sane other
      → Alike last e settled there alone r a b is_a is_b round released sealed world other
      → get world.rounds r ≡ Some round →
      HasNone last e settled there alone r a b is_a is_b round released sealed world
      → HasNone last e settled there alone r a b is_a is_b round released sealed other →
      All IsTimed (map timed list) → All (λ asked. asked.0 < end_of round) (map timed list)
      → AnsweredRun world list replies last → Run other (map timed (turned list)) others end → Serve others →
      replies_where certifies (map timed list) replies ≡ replies_where certifies (map timed (turned list)) others
      → AnsweredRun other (turned list) others end

  pub answered_turned : (list : List Asked) → Claim list
  answered_turned [] world other end [] others sane too alike kept none also typed before run swaps serve same =
      elim others as (λ (gs : List Reply). Run other [] gs end → AnsweredRun other [] gs end) [
        | [] ↦ λ h. h
        | g ∷ gs ↦ λ h. absurd h
      ] swaps
  answered_turned [] world other end (given ∷ replies) others sane too alike kept none also typed before run swaps serve
      same = absurd run
  answered_turned (q ∷ later) world other end [] others sane too alike kept none also typed before run swaps serve
      same = absurd run
  answered_turned (q ∷ later) world other end (given ∷ replies) [] sane too alike kept none also typed before run swaps
      serve same = absurd swaps
  answered_turned (q ∷ later) world other end (given ∷ replies) (answered ∷ others) sane too alike kept none also typed
      before run (after, step, swaps) serve same =
      let p : Asked = exchanged_asked (swapped r a b) q in
      let certifies_too : certifies (timed p) ≡ certifies (timed q) = as_before (swapped r a b) q in
      let theirs : List Reply = replies_where certifies (map timed (turned later)) others in
      let ours : List Reply = replies_where certifies (map timed later) replies in
      let heads = heads_alike (certifies (timed q)) given answered ours theirs
      (same ∙ ap (λ t. if t then answered ∷ theirs else theirs) certifies_too) in
      let second = served other after p.moment p.request answered step
      (All-head (λ g. g ≢ reply.Unavailable) answered others serve) in
      let done = same_answer (swapped r a b) world other alike.puzzles q p refl second.0 given answered run.0 after
      heads.0 run.1 second.1 in (
        after,
        done,
        answered_turned later run.0 after end replies others
            (still_sane last e settled there alone r a b is_a is_b round released sealed q later world other given
            replies sane too alike kept none also typed before run)
            (sane_with last e settled there alone r a b is_a is_b round released sealed q later world other given
            replies sane too alike kept none also typed before run answered after done)
            (alike_with last e settled there alone r a b is_a is_b round released sealed q later world other given
            replies sane too alike kept none also typed before run answered after done)
            (still_kept last e settled there alone r a b is_a is_b round released sealed q later world other given
            replies sane too alike kept none also typed before run)
            (has_none last e settled there alone r a b is_a is_b round released sealed q later world other given replies
            sane too alike kept none also typed before run)
            (none_with last e settled there alone r a b is_a is_b round released sealed q later world other given
            replies sane too alike kept none also typed before run answered after done)
            (All-tail IsTimed (timed q) (map timed later) typed)
            (All-tail (λ asked. asked.0 < end_of round) (timed q) (map timed later) before) run.2 swaps
            (All-tail (λ g. g ≢ reply.Unavailable) answered others serve) heads.1,
      )

-- the law, from one world
hides_answers : (world : World) → Sane world → HidesAnswers world
hides_answers world sane last end r a b round e list replies others typed h is_a is_b there alone run swaps serve
    serve_too same =
    let found = answered_list world last list replies run serve in
    let asked : List Asked = found.0 in
    let Law : List (ℕ × Request) → Type 0 = λ requests.
    All IsTimed requests → IsSealedRound world r round requests → Run world requests replies last
    → Run world (exchanged_list r a b requests) others end →
    replies_where certifies requests replies ≡ replies_where certifies (exchanged_list r a b requests) others →
    replies_to e.key (exchanged_list r a b requests) others ≡ replies_to e.key requests
    (exchanged_replies r a b requests replies) in
    let of_answered : Law (map timed asked) = λ is_typed is whole less alike.
    let settled : Sane last = run_sane world (map timed asked) replies last is_typed whole sane in
    let turn : map timed (map (exchanged_asked (swapped r a b)) asked) ≡ exchanged_list r a b (map timed asked) =
    turned_timed r a b asked in
    let answers : AnsweredRun world (map (exchanged_asked (swapped r a b)) asked) others end =
    answered_turned last e settled.typed there alone r a b is_a is_b round is.released is.sealed asked world world end
    replies others sane sane
    (alike_at_first r a b world sane.typed is.none) is.kept (λ published. is.none) (λ published. is.none) is_typed
    is.before found.2
    (subst (λ (rs : List (ℕ × Request)). Run world rs others end) (sym turn) less) serve_too
    (alike ∙ ap (λ (rs : List (ℕ × Request)). replies_where certifies rs others) (sym turn)) in
    ap (λ (rs : List (ℕ × Request)). replies_to e.key rs others) (sym turn)
    ∙ sealed_answers world last end r a b round e asked replies others sane is_typed is is_a is_b there alone found.2
    answers in
    subst Law found.1 of_answered typed h run swaps same

-- the law
pub sealed_runs : SealedRuns
sealed_runs world sane = hides_answers world sane

-- from the world after a life that began empty, which is sane
pub lives_hide_answers : LivesHideAnswers
lives_hide_answers world events typed life = hides_answers world (history_sane events _ world typed life empty_sane)
