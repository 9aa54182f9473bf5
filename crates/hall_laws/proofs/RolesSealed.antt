-- Until a sealed round's end, which of two texts is the answer is hidden from whoever is no director.
use Rattle.std.proofs.Common.{◌≡◌, ◌<◌, inl, inr, if◌then◌else◌, ℕ, true, false, List, [], ◌∷◌, Option, Some, None, map}
use Rattle.std.proofs.Common.{refl, sym, ap, ◌∙◌, subst}
use Rattle.std.specs.Prelude.{All}
use Rattle.std.specs.FinMap.{get, same_map}
use Rattle.std.proofs.lemmas.Bool.{false≢true}
use Rattle.std.proofs.lemmas.List.Elements.{All-head, All-tail}
use Rattle.hall_policy.specs.World.{World, end_of}
use Rattle.hall_policy.specs.Ranges.{IsWorld}
use Rattle.hall_policy.specs.First.{First}
use Rattle.hall_policy.specs.OwnAlike.{exchanged}
use Rattle.hall_policy.specs.declared.record.AnswerKey.{AnswerKey}
use Rattle.hall_policy.specs.declared.record.Person.{Person}
use Rattle.hall_policy.specs.declared.record.Round.{Round}
use Rattle.hall_policy.specs.declared.request.Action.{Action}
use Rattle.hall_policy.specs.declared.request.Action.TheVariants as action
use Rattle.hall_policy.proofs.LoneDecisions.{lone}
use Rattle.hall_policy.proofs.Orders.{protest_total, same_protest_keys}
use Rattle.hall_policy.proofs.Texts.{text_decides}
use Rattle.hall_store.specs.Caller.{caller_of}
use Rattle.hall_desk.specs.Alike.{LooksAlike, AlikeFor}
use Rattle.hall_desk.specs.AnsweredRun.{AnsweredRun, timed, exchanged_asked}
use Rattle.hall_desk.specs.Exchanged.{swapped, exchanged_reply, exchanged_replies}
use Rattle.hall_desk.specs.Records.{KeptRecords}
use Rattle.hall_desk.specs.Run.{IsTimed}
use Rattle.hall_desk.specs.Sane.{Sane}
use Rattle.hall_desk.specs.Shown.{is_sealed}
use Rattle.hall_desk.specs.Step.{Asked, IsAnswered, Decided}
use Rattle.hall_desk.specs.Without.{has_key, replies_to}
use Rattle.hall_desk.specs.declared.reply.Reply.{Reply}
use Rattle.hall_desk.proofs.Changing.{step_changes, round_stays}
use Rattle.hall_desk.proofs.OthersAlike.{step_of, run_of, run_remains}
use Rattle.hall_desk.proofs.OthersSteps.{asks_as, found_by}
use Rattle.hall_desk.proofs.Preserving.{Agrees, both_stay}
use Rattle.hall_desk.proofs.RepliesAlike.{IsAtMost}
use Rattle.hall_desk.proofs.SealedAlike.{swapped_apart, in_round, swapped_plain, All_rows, alike_at_first}
use Rattle.hall_desk.proofs.Shows.{one_row}
use Rattle.hall_desk.proofs.StepsAlike.{same_callers, exchanged_answers}
use Rattle.hall_desk.proofs.StepsSane.{step_sane, run_sane}
use Rattle.hall_laws.specs.Roles.{VerdictsHiddenInRuns}
use Rattle.hall_laws.proofs.Roles.{beside, beside_is}
use Rattle.hall_laws.proofs.RolesAlike.{looks_alike, person_answers}
use Rattle.hall_laws.proofs.RolesDecided.{Differ}

module _ (last : World) (e : Person) (settled : IsWorld last) (there : get last.people e.name ≡ Some e)
    (plain : e.roles.director ≡ false) (r a b : List ℕ) (round : Round) (released : round.released ≡ true)
    (sealed : is_sealed round.mode ≡ true) where
  abbrev ex : List ℕ → List ℕ → List ℕ
  ex = swapped r a b

  -- where the round is published, it has no answers
  abbrev HasNone : World → Type 0
  HasNone world = round.published ≡ true → (key : AnswerKey) → key.round ≡ r → get world.answers key ≡ None

  -- both worlds are sane, and those of the two lists
  record Beside (world other : World) : Type 0 where
    sane : Sane world
    too : Sane other
    alike : AlikeFor ex (in_round r) All_rows world other
    kept : get world.rounds r ≡ Some round
    none : HasNone world
    also : HasNone other

  agrees : (world other : World) → AlikeFor ex (in_round r) All_rows world other → (act : Action)
      → Agrees world other act
  agrees world other alike (action.RuleProtest id entrant token ruling) = alike.protests
      (record { entrant = entrant; round = id; token = token }) tt
  agrees world other alike (action.Publish id) = same_map protest_total same_protest_keys world.protests other.protests
      (λ key. alike.protests key tt)
  agrees world other alike _ = tt

  -- the round has no answers still
  still_none : (world next : World) (q : Asked) (given : Reply) → get world.rounds r ≡ Some round → HasNone world
      → IsAnswered world q given next → HasNone next
  still_none world next q given kept none first published key own =
      let changes = step_changes world (caller_of world q.request.key) q.moment q.request.action first.0 q.found given
      next first.1 first.2 in
      elim (changes.answers key) [
        | inl same ↦ same ∙ none published key own
        | inr (adds, unpublished) ↦ absurd (false≢true (sym (unpublished round (ap (get world.rounds) own ∙ kept))
            ∙ published))
      ]

  module _ (q : Asked) (world other next after : World) (given answered : Reply) (both : Beside world other)
      (early : q.moment < end_of round) (first : IsAnswered world q given next)
      (second : IsAnswered other (exchanged_asked ex q) answered after) where
    abbrev caller : Option Person
    caller = caller_of world q.request.key

    same_caller : caller_of other q.request.key ≡ caller
    same_caller = sym (same_callers world other both.alike.people q.request.key)

    still_beside : IsTimed (timed q) → IsTimed (timed (exchanged_asked ex q)) → Beside next after
    still_beside typed turned = record {
      sane = step_sane world q.moment q.request given next typed.moment typed.request
          (step_of world next q given first) both.sane;
      too = step_sane other q.moment (exchanged_asked ex q).request answered after turned.moment turned.request
          (step_of other after (exchanged_asked ex q) answered second) both.too;
      alike = both_stay ex (in_round r) (swapped_apart r a b) (swapped_plain r a b) All_rows world other
          both.sane.typed both.too.typed both.alike caller (caller_of other q.request.key) same_caller
          (λ person is id. tt) q.moment q.request.action (agrees world other both.alike q.request.action) first.0
          second.0 q.found given answered next after first.1 first.2 second.1 second.2;
      kept = round_stays world caller q.moment r round both.kept released early q.request.action first.0 q.found given
          next first.1 first.2 ∙ both.kept;
      none = still_none world next q given both.kept both.none first;
      also = still_none other after (exchanged_asked ex q) answered
          (ap (λ m. get m r) (sym both.alike.rounds) ∙ both.kept) both.also second;
    }

    one : beside world other ≡ other
    one = beside_is world other both.alike.people both.alike.rounds both.alike.places both.alike.testers
        (same_map protest_total same_protest_keys world.protests other.protests (λ key. both.alike.protests key tt))

    -- a round of the id, where it is r
    is_round : (id : List ℕ) (rd : Round) → in_round r id ≡ true → get world.rounds id ≡ Some rd
        → (id ≡ r) × (rd ≡ round)
    is_round id rd hidden at =
        let same : id ≡ r = (text_decides id r).0 hidden in
        (same, one_row (get world.rounds r) rd round (ap (get world.rounds) (sym same) ∙ at) both.kept)

    differ : Differ ex (in_round r) world other.puzzles other.answers q.moment
    differ = record {
      apart = swapped_apart r a b;
      plain = swapped_plain r a b;
      typed = both.sane.typed;
      retyped = subst IsWorld (sym one) both.too.typed;
      started = λ key started. ap (λ m. get m key) both.alike.puzzles;
      shown = λ key. both.alike.answers key tt;
      seals = λ id rd hidden at.
          let same = is_round id rd hidden at in (
            ap (λ (x : Round). is_sealed x.mode) same.1 ∙ sealed,
            subst (λ (x : Round). q.moment < end_of x) (sym same.1) early,
          );
      published = λ id rd hidden at published key own.
          let same = is_round id rd hidden at in
          let is_published : round.published ≡ true = ap (λ (x : Round). x.published) (sym same.1) ∙ published in
          both.none is_published key (own ∙ same.0) ∙ sym (both.also is_published key (own ∙ same.0));
    }

    -- e is told the same, but that the two texts are exchanged
    told_to_e : IsTimed (timed q) → IsAtMost caller e → answered ≡ exchanged_reply ex q.request.action given
    told_to_e typed (inr nobody) = exchanged_answers ex (in_round r) (swapped_apart r a b) (swapped_plain r a b) world
        other both.alike.people both.alike.rounds both.alike.places both.alike.testers both.sane.typed both.too.typed
        (lone [] []) refl q (exchanged_asked ex q) refl refl refl
        (subst (λ (w : World). LooksAlike ex (in_round r) (lone [] []) q.moment world w) one
        (looks_alike ex (in_round r) world other.puzzles other.answers q.moment differ)) (inr nobody) given answered
        next after first second
    told_to_e typed (inl is) =
        let here = subst (λ (c : Option Person). First world c q.request.action q.moment first.0
        × Decided first.0 world c q.request.action q.moment q.found given next) is (first.1, first.2) in
        let late = subst (λ (c : Option Person). First other c (exchanged ex q.request.action) q.moment second.0
        × Decided second.0 other c (exchanged ex q.request.action) q.moment q.found answered after) (same_caller ∙ is)
        (second.1, second.2) in
        let moved = subst (λ (w : World). First w (Some e) (exchanged ex q.request.action) q.moment second.0
        × Decided second.0 w (Some e) (exchanged ex q.request.action) q.moment q.found answered after) (sym one) late in
        sym (person_answers ex (in_round r) world other.puzzles other.answers q.moment differ e plain
        (λ key knows. ap (λ m. get m key) both.alike.puzzles) q.request.action first.0 second.0 q.found given answered
        next after typed.request.action here.0 here.1 moved.0 moved.1).0

  -- a request with e's key is made by e, or by nobody yet
  e_calls : (world : World) → KeptRecords world last → (key : Option (List ℕ)) → key ≡ Some e.key
      → IsAtMost (caller_of world key) e
  e_calls world remains key own = elim (caller_of world key) as (λ c. caller_of world key ≡ c → IsAtMost c e) [
    | None ↦ λ gone. inr refl
    | Some person ↦ λ is.
        let by = found_by last settled key person (remains.callers key person is) in
        let both : Some person.key ≡ Some e.key = sym by.key ∙ own in
        let same_key : person.key ≡ e.key = cc in
        let same_name : person.name ≡ e.name = settled.keys_differ person.name e.name person e by.under there
        same_key in
        inl (sym by.under ∙ ap (get last.people) same_name ∙ there)
  ] refl

  abbrev exchange : List Asked → List Asked
  exchange list = map (exchanged_asked ex) list

  abbrev Claim : List Asked → Type 0
  Claim list = (world other end : World) (replies others : List Reply) → Beside world other
      → All IsTimed (map timed list) → All IsTimed (map timed (exchange list))
      → All (λ asked. asked.0 < end_of round) (map timed list) → AnsweredRun world list replies last
      → AnsweredRun other (exchange list) others end →
      replies_to e.key (map timed (exchange list)) others ≡ replies_to e.key (map timed list)
      (exchanged_replies r a b (map timed list) replies)

  sealed_from : (list : List Asked) → Claim list
  sealed_from [] world other end replies others both typed turned before run swaps = refl
  sealed_from (q ∷ later) world other end [] others both typed turned before run swaps = absurd run
  sealed_from (q ∷ later) world other end (given ∷ replies) [] both typed turned before run swaps = absurd swaps
  sealed_from (q ∷ later) world other end (given ∷ replies) (answered ∷ others) both typed turned before run swaps =
      let is : IsTimed (timed q) = All-head IsTimed (timed q) (map timed later) typed in
      let early : q.moment < end_of round = All-head (λ asked. asked.0 < end_of round) (timed q) (map timed later)
      before in
      let ours : List Reply = replies_to e.key (map timed later) (exchanged_replies r a b (map timed later) replies) in
      let theirs : List Reply = replies_to e.key (map timed (exchange later)) others in
      let tail : theirs ≡ ours = sealed_from later run.0 swaps.0 end replies others
      (still_beside q world other run.0 swaps.0 given answered both early run.1 swaps.1 is
      (All-head IsTimed (timed (exchanged_asked ex q)) (map timed (exchange later)) turned))
      (All-tail IsTimed (timed q) (map timed later) typed)
      (All-tail IsTimed (timed (exchanged_asked ex q)) (map timed (exchange later)) turned)
      (All-tail (λ asked. asked.0 < end_of round) (timed q) (map timed later) before) run.2 swaps.2 in
      elim (has_key e.key q.request.key) as (λ t. has_key e.key q.request.key ≡ t →
      (if t then answered ∷ theirs else theirs) ≡ (if t then exchanged_reply ex q.request.action given
      ∷ ours else ours)) [
        | true ↦ λ own.
            let remains : KeptRecords world last = run_remains world (map timed (q ∷ later)) (given ∷ replies) last
            (run_of world last (q ∷ later) (given ∷ replies) run) in
            let told : answered ≡ exchanged_reply ex q.request.action given =
            told_to_e q world other run.0 swaps.0 given answered both early run.1 swaps.1 is
            (e_calls world remains q.request.key (asks_as e.key q.request.key own)) in
            λ i. told i ∷ tail i
        | false ↦ λ not_own. tail
      ] refl

pub verdicts_hidden_in_runs : VerdictsHiddenInRuns
verdicts_hidden_in_runs world last end r a b round e list replies others sane typed turned h there plain run swaps =
    let settled : Sane last = run_sane world (map timed list) replies last typed (run_of world last list replies run)
    sane in
    sealed_from last e settled.typed there plain r a b round h.released h.sealed list world world end replies others
    (record {
      sane = sane;
      too = sane;
      alike = alike_at_first r a b world sane.typed h.none;
      kept = h.kept;
      none = λ published. h.none;
      also = λ published. h.none;
    }) typed turned h.before run swaps
