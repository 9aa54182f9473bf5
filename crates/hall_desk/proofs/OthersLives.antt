-- Over two lives of a hall, one without the requests of others who hold the role entrant alone, an entrant is told the
-- same.
use Rattle.std.proofs.Common.{◌≡◌, ◌≢◌, inl, inr, ℕ, Bool, true, false, cond, not, List, [], ◌∷◌, Option, Some, None}
use Rattle.std.proofs.Common.{Contains, refl, sym, ap, ◌∙◌, subst, arith}
use Rattle.std.specs.Prelude.{All}
use Rattle.std.specs.List.{filter, list_all}
use Rattle.std.specs.FinMap.{get}
use Rattle.std.proofs.lemmas.Bool.{false≢true}
use Rattle.std.proofs.lemmas.List.Elements.{All-head, All-tail}
use Rattle.hall_policy.specs.World.{World, same_text}
use Rattle.hall_policy.specs.Ranges.{IsWorld}
use Rattle.hall_policy.specs.OwnAlike.{is_entrant_alone, as_is}
use Rattle.hall_policy.specs.declared.record.Person.{Person}
use Rattle.hall_policy.specs.declared.record.PuzzleState.{PuzzleState}
use Rattle.hall_policy.specs.declared.request.Request.{Request}
use Rattle.hall_policy.proofs.LoneDecisions.{as_it_stands}
use Rattle.hall_policy.proofs.Texts.{text_decides, and_second}
use Rattle.hall_store.specs.Caller.{caller_of}
use Rattle.hall_store.proofs.Tests.{later, Contains-all, all-false, and_both}
use Rattle.hall_desk.specs.Sane.{Sane}
use Rattle.hall_desk.specs.Step.{Asked, IsAnswered, Step}
use Rattle.hall_desk.specs.History.{Event, requested, seeded, History, IsTyped}
use Rattle.hall_desk.specs.Records.{KeptRecords}
use Rattle.hall_desk.specs.Without.{is_other_person, is_certify}
use Rattle.hall_desk.specs.Lives.{reply_to, is_e_or_none, is_told, without_others, IsRefusedAlike, HappenAgain}
use Rattle.hall_desk.specs.Lives.{is_round, is_others_in, HistoriesHideOthers}
use Rattle.hall_desk.specs.declared.reply.Reply.{Reply}
use Rattle.hall_desk.specs.declared.reply.Reply.TheVariants as reply
use Rattle.hall_desk.proofs.AnsweredRuns.{decided_serves}
use Rattle.hall_desk.proofs.Histories.{event_sane, history_sane}
use Rattle.hall_desk.proofs.OthersAlike.{alike_itself}
use Rattle.hall_desk.proofs.OthersSteps.{nothing, found_by, later_caller, AlikeIn, looks_alike, asks_publication}
use Rattle.hall_desk.proofs.OthersSteps.{answered_without, answered_with, published_with, seeded_with}
use Rattle.hall_desk.proofs.Remaining.{records_stay}
use Rattle.hall_desk.proofs.RepliesAlike.{IsAtMost}
use Rattle.hall_desk.proofs.Searches.{same_answer}
use Rattle.hall_desk.proofs.StepsAlike.{plain_answers}
use Rattle.hall_desk.proofs.StepsSane.{step_sane}

-- what is answered isn't 503
pub answered_serves : (world next : World) (asked : Asked) (given : Reply) → IsAnswered world asked given next
    → given ≢ reply.Unavailable
answered_serves world next asked given (decision, first, decided) =
    decided_serves decision world (caller_of world asked.request.key) asked.request.action asked.moment asked.found
    given next decided

module _ (last : World) (e : Person) (settled : IsWorld last) (there : get last.people e.name ≡ Some e)
    (alone : is_entrant_alone e ≡ true) where
  -- a key that is e's or nobody's at the end calls e, or nobody yet
  pub told_calls : (world : World) → KeptRecords world last → (key : Option (List ℕ))
      → is_e_or_none e (caller_of last key) ≡ true → IsAtMost (caller_of world key) e
  told_calls world remains key told = elim (caller_of world key) as
      (λ (c : Option Person). caller_of world key ≡ c → IsAtMost c e) [
        | None ↦ λ gone. inr refl
        | Some person ↦ λ is.
            let at_last = later_caller last e settled there alone world remains key person is in
            let by = found_by last settled key person at_last in
            let same_name : person.name ≡ e.name = (text_decides person.name e.name).0
            (sym (ap (is_e_or_none e) at_last) ∙ told) in
            inl (sym by.under ∙ ap (get last.people) same_name ∙ there)
      ] refl

  -- another person isn't told
  others_not_told : (found : Option Person) → is_other_person e found ≡ true → is_e_or_none e found ≡ false
  others_not_told None is_other = absurd (false≢true is_other)
  others_not_told (Some person) is_other = not_so (same_text person.name e.name) (and_second _ _ is_other)
    where
      not_so : (b : Bool) → not b ≡ true → b ≡ false
      not_so true h = absurd (false≢true h)
      not_so false h = refl

  module _ (apart : List ℕ → Bool) where
    abbrev Alike : World → World → Type 0
    Alike world other = AlikeIn last e settled there alone apart world other

    -- a round that the event publishes is apart
    abbrev IsApart : Event → Type 0
    IsApart event = (id : List ℕ) → reply_to event ≡ reply.Publish id → apart id ≡ true

    -- and others hand in nothing to one that is apart
    record Respects (event : Event) : Type 0 where
      pub handed : (id : List ℕ) → is_others_in last e id event ≡ true → apart id ≡ false
      pub published : IsApart event

    -- both worlds after a request that both lives have, and what e is told
    record BothMade (next after : World) (key : Option (List ℕ)) (given answered : Reply) : Type 0 where
      pub alike : Alike next after
      pub told : is_e_or_none e (caller_of last key) ≡ true → given ≡ answered

    -- a request that both answer
    both_answered : (world other next after : World) (t : ℕ) (request : Request) (given answered : Reply) → Sane world
        → Sane other → Alike world other → KeptRecords world last →
        is_other_person e (caller_of last request.key) ≡ false → (is_certify request.action ≡ true → given ≡ answered)
        → ((id : List ℕ) → given ≡ reply.Publish id → apart id ≡ true) →
        ((id : List ℕ) → answered ≡ reply.Publish id → apart id ≡ true) →
        (found again : PuzzleState) → IsAnswered world (record { moment = t; request = request; found = found }) given
        next →
        IsAnswered other (record { moment = t; request = request; found = again }) answered after
        → BothMade next after request.key given answered
    both_answered world other next after t request given answered sane also alike remains kept supposed published
        also_published found again first second =
        let q : Asked = record { moment = t; request = request; found = found } in
        let done : IsAnswered other q answered after =
        same_answer as_is world other alike.puzzles q q (sym (as_it_stands request.action)) again given answered next
        after supposed first second in
        record {
          alike = elim (asks_publication request.action) [
            | inl (id, asked) ↦ published_with last e settled there alone apart world other next after q given answered
                id alike asked (published id) (also_published id) first done
            | inr never ↦ answered_with last e settled there alone apart world other next after q given answered
                sane.typed also.typed remains alike never kept first done
          ];
          told = λ told. plain_answers nothing world other alike.people alike.rounds alike.places alike.testers
              sane.typed also.typed e alone q q refl refl
              (looks_alike last e settled there alone apart world other t sane.typed also.typed alike)
              (told_calls world remains request.key told) given answered next after first done;
        }

    -- a request that both make
    both_made : (world other next after : World) (t : ℕ) (request : Request) (given answered : Reply) → Sane world
        → Sane other → Alike world other → KeptRecords world last →
        is_other_person e (caller_of last request.key) ≡ false → IsRefusedAlike given answered
        → (is_certify request.action ≡ true → given ≡ answered) →
        ((id : List ℕ) → given ≡ reply.Publish id → apart id ≡ true)
        → ((id : List ℕ) → answered ≡ reply.Publish id → apart id ≡ true) → Step world t request given next
        → Step other t request answered after → BothMade next after request.key given answered
    both_made world other next after t request given answered sane also alike remains kept refused supposed published
        also_published (inl h) (inl k) = record {
          alike = subst (λ (w : World). Alike next w) (sym k.1) (subst (λ (w : World). Alike w other) (sym h.1) alike);
          told = λ told. h.0 ∙ sym k.0;
        }
    both_made world other next after t request given answered sane also alike remains kept refused supposed published
        also_published (inl h) (inr k) = absurd (answered_serves other after _ answered k.1 (refused.0 h.0))
    both_made world other next after t request given answered sane also alike remains kept refused supposed published
        also_published (inr h) (inl k) = absurd (answered_serves world next _ given h.1 (refused.1 k.0))
    both_made world other next after t request given answered sane also alike remains kept refused supposed published
        also_published (inr h) (inr k) =
        both_answered world other next after t request given answered sane also alike remains kept supposed published
        also_published h.0 k.0 h.1 k.1

    -- a request of the others
    left_out : (world other next : World) (t : ℕ) (request : Request) (given : Reply) → Alike world other
        → KeptRecords world last → is_other_person e (caller_of last request.key) ≡ true →
        Respects (requested t request given) → Step world t request given next → Alike next other
    left_out world other next t request given alike remains is_other respects (inl h) = subst
        (λ (w : World). Alike w other) (sym h.1) alike
    left_out world other next t request given alike remains is_other respects (inr h) =
        answered_without last e settled there alone apart world next other
        (record { moment = t; request = request; found = h.0 }) given remains alike h.1
        (λ id handed. respects.handed id (and_both _ _ is_other
        (ap (is_round id) handed ∙ (text_decides id id).1 refl))) is_other

    abbrev Claim : List Event → Type 0
    Claim events = (others : List Event) (world other end : World) → Sane world → Sane other → Alike world other
        → All IsTyped events → ((event : Event) → Contains events event → Respects event)
        → ((event : Event) → Contains others event → IsApart event) →
        History world events last → History other others end → HappenAgain (without_others last e events) others
        → filter (is_told last e) events ≡ filter (is_told last e) others

    -- the first event is a request of the others
    one_less : (t : ℕ) (request : Request) (given : Reply) (rest others : List Event) (world other end : World)
        → Claim rest → Sane world → Sane other → Alike world other →
        All IsTyped (requested t request given ∷ rest) → ((event : Event) → Contains (requested t request given ∷ rest)
        event → Respects event) → ((event : Event) → Contains others event → IsApart event) →
        History world (requested t request given ∷ rest) last → History other others end
        → is_other_person e (caller_of last request.key) ≡ true →
        HappenAgain (without_others last e rest) others → filter (is_told last e) (requested t request given ∷ rest) ≡
        filter (is_told last e) others
    one_less t request given rest others world other end claim sane also alike typed respects shown life lives is_other
        again =
        let event : Event = requested t request given in
        let told : List Event = filter (is_told last e) rest in
        ap (λ (b : Bool). cond b (event ∷ told) told) (others_not_told (caller_of last request.key) is_other)
        ∙ claim others life.0 other end (event_sane world event life.0 (All-head IsTyped event rest typed) life.1 sane)
        also
        (left_out world other life.0 t request given alike (records_stay world last (event ∷ rest) life) is_other
        (respects event (0, omega arith, refl)) life.1)
        (All-tail IsTyped event rest typed) (λ x among. respects x (later event rest x among)) shown life.2 lives again

    -- the first event is a request that both make
    one_more : (t : ℕ) (request : Request) (given answered : Reply) (rest left : List Event) (world other end : World)
        → Claim rest → Sane world → Sane other → Alike world other →
        All IsTyped (requested t request given ∷ rest) → ((event : Event) → Contains (requested t request given ∷ rest)
        event → Respects event) → ((id : List ℕ) → answered ≡ reply.Publish id → apart id ≡ true)
        → ((event : Event) → Contains left event → IsApart event) →
        History world (requested t request given ∷ rest) last → is_other_person e (caller_of last request.key) ≡ false
        → IsRefusedAlike given answered →
        (is_certify request.action ≡ true → given ≡ answered) → History other (requested t request answered ∷ left) end
        → HappenAgain (without_others last e rest) left →
        filter (is_told last e) (requested t request given ∷ rest) ≡ filter (is_told last e)
        (requested t request answered ∷ left)
    one_more t request given answered rest left world other end claim sane also alike typed respects own_apart shown
        life kept refused supposed lives again =
        let event : Event = requested t request given in
        let is_typed = All-head IsTyped event rest typed in
        let both = both_made world other life.0 lives.0 t request given answered sane also alike
        (records_stay world last (event ∷ rest) life) kept refused supposed
        (respects event (0, omega arith, refl)).published own_apart life.1 lives.1 in
        let tail : filter (is_told last e) rest ≡ filter (is_told last e) left =
        claim left life.0 lives.0 end (event_sane world event life.0 is_typed life.1 sane)
        (step_sane other t request answered lives.0 is_typed.0 is_typed.1 lives.1 also) both.alike
        (All-tail IsTyped event rest typed) (λ x among. respects x (later event rest x among)) shown life.2 lives.2
        again in
        elim (is_e_or_none e (caller_of last request.key)) as (λ b. is_e_or_none e (caller_of last request.key) ≡ b →
        ◌≡◌ {A = List Event} (cond b (requested t request given ∷ filter (is_told last e) rest)
        (filter (is_told last e) rest)) (cond b (requested t request answered ∷ filter (is_told last e) left)
        (filter (is_told last e) left))) [
          | true ↦ λ told. let same = both.told told in λ i. requested t request (same i) ∷ tail i
          | false ↦ λ untold. tail
        ] refl

    -- the first event is a list of people
    one_list : (people : List Person) (given answered : Reply) (rest left : List Event) (world other end : World)
        → Claim rest → Sane world → Sane other → Alike world other →
        All IsTyped (seeded people given ∷ rest) → ((event : Event) → Contains (seeded people given ∷ rest) event
        → Respects event) → ((event : Event) → Contains left event → IsApart event) →
        History world (seeded people given ∷ rest) last → IsRefusedAlike given answered
        → History other (seeded people answered ∷ left) end → HappenAgain (without_others last e rest) left →
        filter (is_told last e) rest ≡ filter (is_told last e) left
    one_list people given answered rest left world other end claim sane also alike typed respects shown life refused
        lives again =
        let event : Event = seeded people given in
        let is_typed = All-head IsTyped event rest typed in
        claim left life.0 lives.0 end (event_sane world event life.0 is_typed life.1 sane)
        (event_sane other (seeded people answered) lives.0 is_typed lives.1 also)
        (seeded_with last e settled there alone apart world other life.0 lives.0 people given answered alike refused
        life.1 lives.1)
        (All-tail IsTyped event rest typed) (λ x among. respects x (later event rest x among)) shown life.2 lives.2
        again

    -- the first event is a request that isn't left out
    with_twin : (t : ℕ) (request : Request) (given : Reply) (rest others : List Event) (world other end : World)
        → Claim rest → Sane world → Sane other → Alike world other →
        All IsTyped (requested t request given ∷ rest) → ((event : Event) → Contains (requested t request given ∷ rest)
        event → Respects event) → ((event : Event) → Contains others event → IsApart event) →
        History world (requested t request given ∷ rest) last → History other others end
        → HappenAgain (requested t request given ∷ without_others last e rest) others →
        is_other_person e (caller_of last request.key) ≡ false
        → filter (is_told last e) (requested t request given ∷ rest) ≡ filter (is_told last e) others
    with_twin t request given rest [] world other end claim sane also alike typed respects shown life lives again kept =
        absurd again
    with_twin t request given rest (seeded list answered ∷ left) world other end claim sane also alike typed respects
        shown life lives again kept = absurd again.0
    with_twin t request given rest (requested u twin answered ∷ left) world other end claim sane also alike typed
        respects shown life lives again kept =
        let (moment, asked, refused, supposed) = again.0 in
        let one : requested u twin answered ≡ requested t request answered = λ i. requested (moment i) (asked i)
        answered in
        one_more t request given answered rest left world other end claim sane also alike typed respects
        (shown (requested u twin answered) (0, omega arith, refl))
        (λ x among. shown x (later (requested u twin answered) left x among)) life kept refused supposed
        (subst (λ (x : Event). History other (x ∷ left) end) one lives) again.1
        ∙ ap (λ (x : Event). filter (is_told last e) (x ∷ left)) (sym one)

    told_alike : (events : List Event) → Claim events
    told_alike [] [] world other end sane also alike typed respects shown life lives again = refl
    told_alike [] (twin ∷ left) world other end sane also alike typed respects shown life lives again = absurd again
    told_alike (seeded people given ∷ rest) [] world other end sane also alike typed respects shown life lives again =
        absurd again
    told_alike (seeded people given ∷ rest) (requested u request answered ∷ left) world other end sane also alike typed
        respects shown life lives again = absurd again.0
    told_alike (seeded people given ∷ rest) (seeded list answered ∷ left) world other end sane also alike typed respects
        shown life lives again =
        one_list people given answered rest left world other end (told_alike rest) sane also alike typed respects
        (λ x among. shown x (later (seeded list answered) left x among)) life again.0.1
        (subst (λ (l : List Person). History other (seeded l answered ∷ left) end) again.0.0 lives) again.1
    told_alike (requested t request given ∷ rest) others world other end sane also alike typed respects shown life lives
        again =
        elim (is_other_person e (caller_of last request.key)) as
        (λ b. is_other_person e (caller_of last request.key) ≡ b →
        HappenAgain (cond (not b) (requested t request given ∷ without_others last e rest) (without_others last e rest))
        others →
        filter (is_told last e) (requested t request given ∷ rest) ≡ filter (is_told last e) others) [
          | true ↦ λ is_other same. one_less t request given rest others world other end (told_alike rest) sane also
              alike typed respects shown life lives is_other same
          | false ↦ λ kept same. with_twin t request given rest others world other end (told_alike rest) sane also alike
              typed respects shown life lives same kept
        ] refl again

-- the law
pub histories_hide_others : HistoriesHideOthers
histories_hide_others world last end e events others sane typed life lives there alone again publishes published =
    let settled : Sane last = history_sane events world last typed life sane in
    let apart : List ℕ → Bool = λ id. list_all (λ asked. not (is_others_in last e id asked)) events in
    let is_apart : (id : List ℕ) → ((asked : Event) → Contains events asked → is_others_in last e id asked ≡ false)
    → apart id ≡ true = λ id none.
    elim (apart id) as (λ b. apart id ≡ b → b ≡ true) [
      | true ↦ λ _. refl
      | false ↦ λ some.
          let (asked, contained, handed) = all-false (λ asked. not (is_others_in last e id asked)) events some in
          absurd (false≢true (sym handed ∙ ap not (none asked contained)))
    ] refl in
    told_alike last e settled.typed there alone apart events others world world end sane sane
    (alike_itself nothing _ world) typed
    (λ event among. record {
      handed = λ id handed. elim (apart id) as (λ b. apart id ≡ b → b ≡ false) [
        | false ↦ λ _. refl
        | true ↦ λ none. absurd (false≢true (sym (ap not handed)
            ∙ Contains-all (λ asked. not (is_others_in last e id asked)) events event none among))
      ] refl;
      published = λ id granted. is_apart id (λ asked contained. publishes id event asked among granted contained);
    })
    (λ event among id granted. is_apart id (λ asked contained. published id event asked among granted contained))
    life lives again
