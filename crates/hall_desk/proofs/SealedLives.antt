-- Over two lives of a hall, which of two texts is the answer to a sealed round is hidden until the round's end.
use Rattle.std.proofs.Common.{◌≡◌, ◌<◌, inl, inr, ℕ, true, false, cond, List, [], ◌∷◌, Some, map, refl, sym, ap, ◌∙◌}
use Rattle.std.proofs.Common.{subst}
use Rattle.std.specs.Prelude.{All}
use Rattle.std.specs.List.{filter}
use Rattle.std.specs.FinMap.{get}
use Rattle.std.proofs.lemmas.Bool.{false≢true}
use Rattle.std.proofs.lemmas.List.Elements.{All-head, All-tail}
use Rattle.hall_policy.specs.World.{World, end_of}
use Rattle.hall_policy.specs.Ranges.{IsWorld, IsAnswer}
use Rattle.hall_policy.specs.OwnAlike.{is_entrant_alone, exchanged}
use Rattle.hall_policy.specs.declared.record.Person.{Person}
use Rattle.hall_policy.specs.declared.record.PuzzleState.{PuzzleState}
use Rattle.hall_policy.specs.declared.record.PuzzleState.TheVariants as state
use Rattle.hall_policy.specs.declared.record.Round.{Round}
use Rattle.hall_policy.specs.declared.request.Action.{Action}
use Rattle.hall_policy.specs.declared.request.Action.TheVariants as action
use Rattle.hall_policy.specs.declared.request.Request.{Request}
use Rattle.hall_store.specs.Caller.{caller_of}
use Rattle.hall_store.specs.Change.{with_people}
use Rattle.hall_desk.specs.Exchanged.{swapped, exchanged_request, exchanged_reply}
use Rattle.hall_desk.specs.AnsweredRun.{exchanged_asked}
use Rattle.hall_desk.specs.Run.{IsTimed}
use Rattle.hall_desk.specs.Sane.{Sane}
use Rattle.hall_desk.specs.Shown.{is_sealed}
use Rattle.hall_desk.specs.Step.{Asked, IsAnswered, Step, Seed}
use Rattle.hall_desk.specs.History.{Event, requested, seeded, History, IsTyped}
use Rattle.hall_desk.specs.Records.{KeptRecords}
use Rattle.hall_desk.specs.Without.{is_certify}
use Rattle.hall_desk.specs.Lives.{is_e_or_none, is_told, IsRefusedAlike, HappenAgain, timed_requests, exchanged_event}
use Rattle.hall_desk.specs.Lives.{HistoriesHideAnswers}
use Rattle.hall_desk.specs.declared.reply.Reply.{Reply}
use Rattle.hall_desk.specs.declared.reply.Reply.TheVariants as reply
use Rattle.hall_desk.proofs.Histories.{event_sane, history_sane}
use Rattle.hall_desk.proofs.OthersLives.{answered_serves, told_calls}
use Rattle.hall_desk.proofs.OthersSteps.{seeded_both, people_join}
use Rattle.hall_desk.proofs.Remaining.{records_stay}
use Rattle.hall_desk.proofs.SealedAlike.{swapped_apart, swapped_plain, in_round, All_rows, Alike, HasNone, looks_alike}
use Rattle.hall_desk.proofs.SealedAlike.{next_sane, next_kept, next_none, after_sane, after_none, both_alike}
use Rattle.hall_desk.proofs.SealedAlike.{alike_at_first}
use Rattle.hall_desk.proofs.SealedRun.{as_before}
use Rattle.hall_desk.proofs.Searches.{same_answer}
use Rattle.hall_desk.proofs.StepsAlike.{exchanged_answers}

-- a reply is 503 with texts exchanged where it is so without
refused_before : (ex : List ℕ → List ℕ → List ℕ) (a : Action) (given : Reply)
    → exchanged_reply ex a given ≡ reply.Unavailable → given ≡ reply.Unavailable
refused_before ex (action.Answers round) given h = of_listing round given h
  where
    of_listing : (round : List ℕ) (given : Reply) → exchanged_reply ex (action.Answers round) given ≡ reply.Unavailable
        → given ≡ reply.Unavailable
    of_listing round (reply.Answers lines) h = absurd (cc)
    of_listing round _ h = h
refused_before ex _ given h = h

refused_after : (ex : List ℕ → List ℕ → List ℕ) (a : Action)
    → exchanged_reply ex a reply.Unavailable ≡ reply.Unavailable
refused_after ex (action.Answers round) = refl
refused_after ex _ = refl

-- a reply to a request to certify lists no texts
certified_reply : (ex : List ℕ → List ℕ → List ℕ) (a : Action) (given : Reply) → is_certify a ≡ true
    → exchanged_reply ex a given ≡ given
certified_reply ex (action.Answers round) given h = absurd (false≢true h)
certified_reply ex _ given h = refl

module _ (last : World) (e : Person) (settled : IsWorld last) (there : get last.people e.name ≡ Some e)
    (alone : is_entrant_alone e ≡ true)
    (r a b : List ℕ) (is_a : IsAnswer a) (is_b : IsAnswer b) (round : Round) (released : round.released ≡ true)
    (sealed : is_sealed round.mode ≡ true) where
  abbrev ex : List ℕ → List ℕ → List ℕ
  ex = swapped r a b

  -- two worlds that are as they have to be
  record Beside (world other : World) : Type 0 where
    pub sane : Sane world
    pub too : Sane other
    pub alike : Alike last e settled there alone r a b is_a is_b round released sealed world other
    pub kept : get world.rounds r ≡ Some round
    pub none : HasNone last e settled there alone r a b is_a is_b round released sealed world
    pub also : HasNone last e settled there alone r a b is_a is_b round released sealed other

  -- they stay so, and what e is told is alike
  record BothMade (next after : World) (request : Request) (given answered : Reply) : Type 0 where
    pub beside : Beside next after
    pub told : is_e_or_none e (caller_of last request.key) ≡ true → exchanged_reply ex request.action given ≡ answered

  both_answered : (world other next after : World) (t : ℕ) (request : Request) (given answered : Reply)
      → Beside world other → KeptRecords world last → IsTimed (t, request) → t < end_of round →
      (is_certify request.action ≡ true → given ≡ answered) → (found again : PuzzleState)
      → IsAnswered world (record { moment = t; request = request; found = found }) given next →
      IsAnswered other (record { moment = t; request = exchanged_request ex request; found = again }) answered after
      → BothMade next after request given answered
  both_answered world other next after t request given answered h remains is_timed in_time supposed found again first
      second =
      let q : Asked = record { moment = t; request = request; found = found } in
      let done : IsAnswered other (exchanged_asked ex q) answered after =
      same_answer ex world other h.alike.puzzles q (exchanged_asked ex q) refl again given answered next after supposed
      first second in
      record {
        beside = record {
          sane = next_sane last e settled there alone r a b is_a is_b round released sealed q world other next given
              h.sane h.too h.alike h.kept h.none h.also is_timed in_time first;
          too = after_sane last e settled there alone r a b is_a is_b round released sealed q world other next given
              h.sane h.too h.alike h.kept h.none h.also is_timed in_time first answered after done;
          alike = both_alike last e settled there alone r a b is_a is_b round released sealed q world other next given
              h.sane h.too h.alike h.kept h.none h.also is_timed in_time first answered after done;
          kept = next_kept last e settled there alone r a b is_a is_b round released sealed q world other next given
              h.sane h.too h.alike h.kept h.none h.also is_timed in_time first;
          none = next_none last e settled there alone r a b is_a is_b round released sealed q world other next given
              h.sane h.too h.alike h.kept h.none h.also is_timed in_time first;
          also = after_none last e settled there alone r a b is_a is_b round released sealed q world other next given
              h.sane h.too h.alike h.kept h.none h.also is_timed in_time first answered after done;
        };
        told = λ told. sym (exchanged_answers ex (in_round r) (swapped_apart r a b) (swapped_plain r a b) world other
            h.alike.people h.alike.rounds h.alike.places h.alike.testers h.sane.typed h.too.typed e alone
            q (exchanged_asked ex q) refl refl refl
            (looks_alike last e settled there alone r a b is_a is_b round released sealed world other h.sane.typed
            h.too.typed h.alike h.kept h.none h.also t in_time)
            (told_calls last e settled there alone world remains request.key told) given answered next after first
            done);
      }

  both_made : (world other next after : World) (t : ℕ) (request : Request) (given answered : Reply) → Beside world other
      → KeptRecords world last → IsTimed (t, request) → t < end_of round →
      IsRefusedAlike given answered → (is_certify request.action ≡ true → given ≡ answered)
      → Step world t request given next → Step other t (exchanged_request ex request) answered after →
      BothMade next after request given answered
  both_made world other next after t request given answered h remains is_timed in_time refused supposed (inl p)
      (inl k) = record {
        beside = subst (λ (w : World). Beside next w) (sym k.1) (subst (λ (w : World). Beside w other) (sym p.1) h);
        told = λ told. ap (exchanged_reply ex request.action) p.0 ∙ refused_after ex request.action ∙ sym k.0;
      }
  both_made world other next after t request given answered h remains is_timed in_time refused supposed (inl p)
      (inr k) = absurd (answered_serves other after _ answered k.1 (refused.0 p.0))
  both_made world other next after t request given answered h remains is_timed in_time refused supposed (inr p)
      (inl k) = absurd (answered_serves world next _ given p.1 (refused.1 k.0))
  both_made world other next after t request given answered h remains is_timed in_time refused supposed (inr p)
      (inr k) =
      both_answered world other next after t request given answered h remains is_timed in_time supposed p.0 k.0 p.1 k.1

  -- people who stand before any request
  both_seeded : (world other next after : World) (people : List Person) (given answered : Reply) → Beside world other
      → IsTyped (seeded people given) → IsRefusedAlike given answered →
      Seed world people given next → Seed other people answered after → Beside next after
  both_seeded world other next after people given answered h is_typed refused first second =
      let sane : Sane next = event_sane world (seeded people given) next is_typed first h.sane in
      let too : Sane after = event_sane other (seeded people answered) after is_typed second h.too in
      elim (seeded_both world other next after people given answered h.alike.people refused first second) [
        | inl same ↦ subst (λ (w : World). Beside next w) (sym same.1)
            (subst (λ (w : World). Beside w other) (sym same.0) h)
        | inr joined ↦ record {
          sane = sane;
          too = too;
          alike = subst (λ (w : World). Alike last e settled there alone r a b is_a is_b round released sealed next w)
              (sym joined.1)
              (subst (λ (w : World). Alike last e settled there alone r a b is_a is_b round released sealed w
              (record other { people = with_people other.people people })) (sym joined.0)
              (people_join ex (in_round r) All_rows world other people h.alike));
          kept = ap (λ (w : World). get w.rounds r) joined.0 ∙ h.kept;
          none = subst (λ (w : World). HasNone last e settled there alone r a b is_a is_b round released sealed w)
              (sym joined.0) h.none;
          also = subst (λ (w : World). HasNone last e settled there alone r a b is_a is_b round released sealed w)
              (sym joined.1) h.also;
        }
      ]

  abbrev turned : List Event → List Event
  turned events = map (exchanged_event ex) events

  abbrev Claim : List Event → Type 0
  Claim events = (others : List Event) (world other end : World) → Beside world other → All IsTyped events
      → All (λ asked. asked.0 < end_of round) (timed_requests events) →
      History world events last → History other others end → HappenAgain (turned events) others
      → filter (is_told last e) (turned events) ≡ filter (is_told last e) others

  -- the first event is a request
  one_more : (t : ℕ) (request : Request) (given answered : Reply) (rest left : List Event) (world other end : World)
      → Claim rest → Beside world other → All IsTyped (requested t request given ∷ rest) →
      All (λ asked. asked.0 < end_of round) ((t, request) ∷ timed_requests rest)
      → History world (requested t request given ∷ rest) last
      → History other (requested t (exchanged_request ex request) answered ∷ left) end →
      IsRefusedAlike (exchanged_reply ex request.action given) answered
      → (is_certify (exchanged ex request.action) ≡ true → exchanged_reply ex request.action given ≡ answered)
      → HappenAgain (turned rest) left →
      filter (is_told last e) (turned (requested t request given ∷ rest)) ≡ filter (is_told last e)
      (requested t (exchanged_request ex request) answered ∷ left)
  one_more t request given answered rest left world other end claim h typed before life lives refused supposed again =
      let event : Event = requested t request given in
      let is_typed = All-head IsTyped event rest typed in
      let shown : Reply = exchanged_reply ex request.action given in
      let either : IsRefusedAlike given answered = (
        λ none. refused.0 (ap (exchanged_reply ex request.action) none ∙ refused_after ex request.action),
        λ none.
            refused_before ex request.action given (refused.1 none),
      ) in
      let certified : is_certify request.action ≡ true → given ≡ answered = λ is.
      sym (certified_reply ex request.action given is) ∙ supposed
      (as_before ex (record { moment = t; request = request; found = state.New }) ∙ is) in
      let both = both_made world other life.0 lives.0 t request given answered h
      (records_stay world last (event ∷ rest) life) (record { moment = is_typed.0; request = is_typed.1 })
      (All-head (λ asked. asked.0 < end_of round) (t, request) (timed_requests rest) before) either certified life.1
      lives.1 in
      let tail : filter (is_told last e) (turned rest) ≡ filter (is_told last e) left =
      claim left life.0 lives.0 end both.beside (All-tail IsTyped event rest typed)
      (All-tail (λ asked. asked.0 < end_of round) (t, request) (timed_requests rest) before) life.2 lives.2 again in
      elim (is_e_or_none e (caller_of last request.key)) as (λ x. is_e_or_none e (caller_of last request.key) ≡ x →
      ◌≡◌ {A = List Event} (cond x (requested t (exchanged_request ex request) shown
      ∷ filter (is_told last e) (turned rest)) (filter (is_told last e) (turned rest)))
      (cond x (requested t (exchanged_request ex request) answered ∷ filter (is_told last e) left)
      (filter (is_told last e) left))) [
        | true ↦ λ told. let same = both.told told in λ i. requested t (exchanged_request ex request) (same i) ∷ tail i
        | false ↦ λ untold. tail
      ] refl

  told_turned : (events : List Event) → Claim events
  told_turned [] [] world other end h typed before life lives again = refl
  told_turned [] (twin ∷ left) world other end h typed before life lives again = absurd again
  told_turned (event ∷ rest) [] world other end h typed before life lives again = elim event as
      (λ (x : Event). HappenAgain (turned (x ∷ rest)) [] → filter (is_told last e) (turned (x ∷ rest)) ≡ []) [
        | requested t request given ↦ λ no. absurd no
        | seeded people given ↦ λ no. absurd no
      ] again
  told_turned (seeded people given ∷ rest) (requested u twin answered ∷ left) world other end h typed before life lives
      again = absurd again.0
  told_turned (seeded people given ∷ rest) (seeded list answered ∷ left) world other end h typed before life lives
      again =
      let lives_same : History other (seeded people answered ∷ left) end = subst
      (λ (l : List Person). History other (seeded l answered ∷ left) end) again.0.0 lives in
      told_turned rest left life.0 lives_same.0 end
      (both_seeded world other life.0 lives_same.0 people given answered h
      (All-head IsTyped (seeded people given) rest typed) again.0.1 life.1 lives_same.1)
      (All-tail IsTyped (seeded people given) rest typed) before life.2 lives_same.2 again.1
  told_turned (requested t request given ∷ rest) (seeded list answered ∷ left) world other end h typed before life lives
      again = absurd again.0
  told_turned (requested t request given ∷ rest) (requested u twin answered ∷ left) world other end h typed before life
      lives again =
      let (moment, asked, refused, supposed) = again.0 in
      let one : requested u twin answered ≡ requested t (exchanged_request ex request) answered = λ i. requested
      (moment i) (asked i) answered in
      one_more t request given answered rest left world other end (told_turned rest) h typed before life
      (subst (λ (x : Event). History other (x ∷ left) end) one lives) refused supposed again.1
      ∙ ap (λ (x : Event). filter (is_told last e) (x ∷ left)) (sym one)

-- the law
pub histories_hide_answers : HistoriesHideAnswers
histories_hide_answers world last end r a b round e events others sane typed life lives h is_a is_b there alone again =
    let settled : Sane last = history_sane events world last typed life sane in
    told_turned last e settled.typed there alone r a b is_a is_b round h.released h.sealed events others world world end
    (record {
      sane = sane;
      too = sane;
      alike = alike_at_first r a b world sane.typed h.none;
      kept = h.kept;
      none =
          λ published. h.none;
      also = λ published. h.none;
    })
    typed h.before life lives again
