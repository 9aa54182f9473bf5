-- Until a sealed round's end, which of two texts is the answer is hidden.
use Rattle.std.proofs.Common.{◌≡◌, ◌<◌, inl, inr, if◌then◌else◌, ℕ, Bool, true, false, List, [], ◌∷◌, Option, Some}
use Rattle.std.proofs.Common.{None, map, refl, sym, ap, ◌∙◌, subst}
use Rattle.std.specs.Prelude.{All}
use Rattle.std.specs.Option.{option_map}
use Rattle.std.specs.FinMap.{FinMap, get, same_map}
use Rattle.std.proofs.lemmas.Bool.{false≢true}
use Rattle.std.proofs.lemmas.List.Elements.{All-head, All-tail}
use Rattle.hall_policy.specs.Text.{text_cmp}
use Rattle.hall_policy.specs.World.{World, end_of, same_text}
use Rattle.hall_policy.specs.Ranges.{IsWorld, IsAnswer, IsAction, IsRequest}
use Rattle.hall_policy.specs.First.{First}
use Rattle.hall_policy.specs.declared.record.Person.{Person}
use Rattle.hall_policy.specs.declared.record.Round.{Round}
use Rattle.hall_policy.specs.declared.record.AnswerKey.{AnswerKey}
use Rattle.hall_policy.specs.declared.record.AnswerRow.{AnswerRow}
use Rattle.hall_policy.specs.declared.request.Action.{Action}
use Rattle.hall_policy.specs.declared.request.Action.TheVariants as action
use Rattle.hall_policy.specs.declared.rule.Decision.{Decision}
use Rattle.hall_policy.proofs.Orders.{protest_total, same_protest_keys}
use Rattle.hall_store.specs.Caller.{caller_of}
use Rattle.hall_desk.specs.Sane.{Sane}
use Rattle.hall_desk.specs.Shown.{is_sealed}
use Rattle.hall_desk.specs.Step.{Asked, IsAnswered, Decided}
use Rattle.hall_policy.specs.OwnAlike.{is_entrant_alone, seen, as_is, exchanged}
use Rattle.hall_desk.specs.Alike.{LooksAlike, AlikeFor}
use Rattle.hall_desk.specs.AnsweredRun.{AnsweredRun, timed, exchanged_asked, SealedAnswers}
use Rattle.hall_desk.specs.Run.{IsTimed}
use Rattle.hall_desk.specs.Without.{has_key, replies_to}
use Rattle.hall_desk.specs.Exchanged.{swapped, exchanged_reply, exchanged_replies}
use Rattle.hall_desk.specs.declared.reply.Reply.{Reply}
use Rattle.hall_policy.proofs.Texts.{text_decides}
use Rattle.hall_desk.specs.Records.{KeptRecords}
use Rattle.hall_desk.proofs.StepsSane.{step_sane, run_sane}
use Rattle.hall_desk.proofs.Shows.{one_row}
use Rattle.hall_desk.proofs.StepsAlike.{same_callers, exchanged_answers}
use Rattle.hall_desk.proofs.Preserving.{Agrees, both_stay}
use Rattle.hall_desk.proofs.Changing.{step_changes, round_stays}
use Rattle.hall_desk.proofs.OthersSteps.{asks_as, e_calls}
use Rattle.hall_desk.proofs.OthersAlike.{step_of, run_of, run_remains}

-- ---- two texts exchanged
abbrev swap : List ℕ → List ℕ → List ℕ → List ℕ
swap a b text = if same_text text a then b else (if same_text text b then a else text)

same_itself : (a : List ℕ) → same_text a a ≡ true
same_itself a = (text_decides a a).1 refl

swap_first : (a b : List ℕ) → swap a b a ≡ b
swap_first a b = ap (λ t. if t then b else (if same_text a b then a else a)) (same_itself a)

swap_second : (a b : List ℕ) → swap a b b ≡ a
swap_second a b = elim (same_text b a) as (λ t. same_text b a ≡ t → (if t then b else (if same_text b b then a else b))
    ≡ a) [
      | true ↦ λ h. (text_decides b a).0 h
      | false ↦ λ h. ap (λ t. if t then a else b) (same_itself b)
    ] refl

swap_twice : (a b x : List ℕ) → swap a b (swap a b x) ≡ x
swap_twice a b x = elim (same_text x a) as (λ t. same_text x a ≡ t
    → swap a b (if t then b else (if same_text x b then a else x)) ≡ x) [
      | true ↦ λ h. swap_second a b ∙ sym ((text_decides x a).0 h)
      | false ↦ λ h. elim (same_text x b) as (λ t. same_text x b ≡ t → swap a b (if t then a else x) ≡ x) [
        | true ↦ λ k. swap_first a b ∙ sym ((text_decides x b).0 k)
        | false ↦ λ k. ap (λ t. if t then b else (if same_text x b then a else x)) h ∙ ap (λ t. if t then a else x) k
      ] refl
    ] refl

swap_apart : (a b x y : List ℕ) → swap a b x ≡ swap a b y → x ≡ y
swap_apart a b x y same = sym (swap_twice a b x) ∙ ap (swap a b) same ∙ swap_twice a b y

pub swapped_apart : (r a b id x y : List ℕ) → swapped r a b id x ≡ swapped r a b id y → x ≡ y
swapped_apart r a b id x y = elim (same_text id r) as (λ t. (if t then swap a b x else x) ≡
    (if t then swap a b y else y) → x ≡ y) [
      | true ↦ λ same. swap_apart a b x y same
      | false ↦ λ same. same
    ]

abbrev pub in_round : List ℕ → List ℕ → Bool
in_round r id = same_text id r

pub swapped_plain : (r a b id : List ℕ) → in_round r id ≡ false → (x : List ℕ) → swapped r a b id x ≡ x
swapped_plain r a b id other x = ap (λ t. if t then swap a b x else x) other

swapped_is_answer : (r a b : List ℕ) → IsAnswer a → IsAnswer b → (id x : List ℕ) → IsAnswer x
    → IsAnswer (swapped r a b id x)
swapped_is_answer r a b is also id x h = elim (same_text id r) as (λ t. IsAnswer (if t then swap a b x else x)) [
  | false ↦ h
  | true ↦ elim (same_text x a) as (λ t. IsAnswer (if t then b else (if same_text x b then a else x))) [
    | true ↦ also
    | false ↦ elim (same_text x b) as (λ t. IsAnswer (if t then a else x)) [ true ↦ is | false ↦ h ]
  ]
]

typed_exchanged : (ex : List ℕ → List ℕ → List ℕ) → ((id x : List ℕ) → IsAnswer x → IsAnswer (ex id x)) → (a : Action)
    → IsAction a → IsAction (exchanged ex a)
typed_exchanged ex keeps (action.Submit id number token answer) h = (h.0, h.1, h.2, keeps id answer h.3)
typed_exchanged ex keeps _ h = h

-- what is kept: all
abbrev pub All_rows : List ℕ → List ℕ → Type 0
All_rows name id = Unit {0}

-- a row that hides nothing shows whole
exchanged_whole : (ex : List ℕ → List ℕ → List ℕ) (hidden : List ℕ → Bool)
    → ((id : List ℕ) → hidden id ≡ false → (x : List ℕ) → ex id x ≡ x) → (row : AnswerRow)
    → hidden row.key.round ≡ false → seen ex hidden row ≡ row
exchanged_whole ex hidden plain row shown =
    let answer : ex row.key.round row.answer ≡ row.answer = plain row.key.round shown row.answer in
    let verdict : (if hidden row.key.round then 0 else row.verdict) ≡ row.verdict = ap
    (λ (b : Bool). if b then 0 else row.verdict) shown in
    λ i. record row { answer = answer i; verdict = verdict i }

whole_exchanged : (ex : List ℕ → List ℕ → List ℕ) (hidden : List ℕ → Bool)
    → ((id : List ℕ) → hidden id ≡ false → (x : List ℕ) → ex id x ≡ x) → (x y : Option AnswerRow) →
    ((r : AnswerRow) → x ≡ Some r → hidden r.key.round ≡ false)
    → ((r : AnswerRow) → y ≡ Some r → hidden r.key.round ≡ false)
    → option_map (seen ex hidden) x ≡ option_map (seen as_is hidden) y → x ≡ y
whole_exchanged ex hidden plain None None p q alike = refl
whole_exchanged ex hidden plain None (Some s) p q alike = let none : None ≡ Some (seen as_is hidden s) = alike in absurd
    (cc)
whole_exchanged ex hidden plain (Some r) None p q alike = let none : Some (seen ex hidden r) ≡ None = alike in absurd
    (cc)
whole_exchanged ex hidden plain (Some r) (Some s) p q alike =
    let both : Some (seen ex hidden r) ≡ Some (seen as_is hidden s) = alike in
    let same : seen ex hidden r ≡ seen as_is hidden s = cc in
    ap Some (sym (exchanged_whole ex hidden plain r (p r refl)) ∙ same ∙ exchanged_whole as_is hidden (λ id h x. refl) s
    (q s refl))

module _ (last : World) (e : Person) (settled : IsWorld last) (there : get last.people e.name ≡ Some e)
    (alone : is_entrant_alone e ≡ true)
    (r a b : List ℕ) (is_a : IsAnswer a) (is_b : IsAnswer b) (round : Round) (released : round.released ≡ true)
    (sealed : is_sealed round.mode ≡ true) where
  abbrev pub ex : List ℕ → List ℕ → List ℕ
  ex = swapped r a b

  abbrev pub Alike : World → World → Type 0
  Alike world other = AlikeFor ex (in_round r) All_rows world other

  -- where the round is published, it has no answers
  abbrev pub HasNone : World → Type 0
  HasNone world = round.published ≡ true → (key : AnswerKey) → key.round ≡ r → get world.answers key ≡ None

  module _ (world other : World) (typed : IsWorld world) (retyped : IsWorld other) (alike : Alike world other)
      (kept : get world.rounds r ≡ Some round) (none : HasNone world) (also : HasNone other) (t : ℕ)
      (early : t < end_of round) where
    pub looks_alike : LooksAlike ex (in_round r) e t world other
    looks_alike = record {
      own = record { answers = λ key own. alike.answers key tt; protests = λ key own. alike.protests key tt };
      sealed = λ id rd hidden at.
          let one : id ≡ r = (text_decides id r).0 hidden in
          let same : rd ≡ round = one_row (get world.rounds r) rd round (ap (get world.rounds) (sym one) ∙ at) kept in
          (ap (λ (x : Round). is_sealed x.mode) same ∙ sealed, subst (λ (x : Round). t < end_of x) (sym same) early);
      answers = λ id rd at published key own. elim (in_round r id) as
          (λ t. in_round r id ≡ t → get world.answers key ≡ get other.answers key) [
            | true ↦ λ hidden.
                let one : id ≡ r = (text_decides id r).0 hidden in
                let same : rd ≡ round = one_row (get world.rounds r) rd round (ap (get world.rounds) (sym one) ∙ at)
                kept in
                let is_published : round.published ≡ true = ap (λ (x : Round). x.published) (sym same) ∙ published in
                none is_published key (own ∙ one) ∙ sym (also is_published key (own ∙ one))
            | false ↦ λ shown. whole_exchanged ex (in_round r) (swapped_plain r a b) (get world.answers key)
                (get other.answers key)
                (λ row here. ap (in_round r) (ap (λ (k : AnswerKey). k.round) (typed.answers key row here) ∙ own)
                ∙ shown)
                (λ row here. ap (in_round r) (ap (λ (k : AnswerKey). k.round) (retyped.answers key row here) ∙ own)
                ∙ shown)
                (alike.answers key tt)
          ] refl;
      protests = λ id rd at published key own. alike.protests key tt;
      puzzles = λ key started. ap (λ m. get m key) alike.puzzles;
      tested = λ key tests. ap (λ m. get m key) alike.puzzles;
    }

  agrees : (world other : World) → Alike world other → (act : Action) → Agrees world other act
  agrees world other alike (action.RuleProtest id entrant token ruling) = alike.protests
      (record { entrant = entrant; round = id; token = token }) tt
  agrees world other alike (action.Publish id) = same_map protest_total same_protest_keys world.protests other.protests
      (λ key. alike.protests key tt)
  agrees world other alike _ = tt

  -- the round has no answers still
  still_none : (world next : World) (caller : Option Person) (q : Asked) (given : Reply) (d : Decision)
      → get world.rounds r ≡ Some round → HasNone world → First world caller q.request.action q.moment d →
      Decided d world caller q.request.action q.moment q.found given next → HasNone next
  still_none world next caller q given d kept none first decided published key own =
      let changes = step_changes world caller q.moment q.request.action d q.found given next first decided in
      elim (changes.answers key) [
        | inl same ↦ same ∙ none published key own
        | inr (adds, unpublished) ↦ absurd (false≢true (sym (unpublished round (ap (get world.rounds) own ∙ kept))
            ∙ published))
      ]

  abbrev pub exchange : List Asked → List Asked
  exchange list = map (exchanged_asked ex) list

  -- a request and its exchanged form
  module _ (q : Asked) (world other next : World) (given : Reply) (sane : Sane world) (too : Sane other)
      (alike : Alike world other) (kept : get world.rounds r ≡ Some round) (none : HasNone world) (also : HasNone other)
      (is_timed : IsTimed (timed q)) (in_time : q.moment < end_of round) (first : IsAnswered world q given next) where
    abbrev caller : Option Person
    caller = caller_of world q.request.key

    abbrev twin : Option Person
    twin = caller_of other q.request.key

    here : get other.rounds r ≡ Some round
    here = ap (λ (m : FinMap text_cmp Round). get m r) (sym alike.rounds) ∙ kept

    request_typed : IsRequest (exchanged_asked ex q).request
    request_typed = record {
      key = is_timed.request.key;
      action = typed_exchanged ex (swapped_is_answer r a b is_a is_b)
          q.request.action is_timed.request.action;
    }

    pub next_sane : Sane next
    next_sane = step_sane world q.moment q.request given next is_timed.moment is_timed.request
        (step_of world next q given first) sane

    pub next_kept : get next.rounds r ≡ Some round
    next_kept = round_stays world caller q.moment r round kept released in_time q.request.action first.0 q.found given
        next first.1 first.2 ∙ kept

    pub next_none : HasNone next
    next_none = still_none world next caller q given first.0 kept none first.1 first.2

    -- both worlds stay alike, and the other one as it has to be
    module _ (answered : Reply) (after : World) (done : IsAnswered other (exchanged_asked ex q) answered after) where
      pub after_sane : Sane after
      after_sane = step_sane other q.moment (exchanged_asked ex q).request answered after is_timed.moment request_typed
          (step_of other after (exchanged_asked ex q) answered done) too

      pub after_none : HasNone after
      after_none = still_none other after twin (exchanged_asked ex q) answered done.0 here also done.1 done.2

      pub both_alike : Alike next after
      both_alike =
          both_stay ex (in_round r) (swapped_apart r a b) (swapped_plain r a b) All_rows world other sane.typed
          too.typed alike caller twin
          (sym (same_callers world other alike.people q.request.key)) (λ person is rd. tt) q.moment q.request.action
          (agrees world other alike q.request.action)
          first.0 done.0 q.found given answered next after first.1 first.2 done.1 done.2

  -- the first request of a list
  module _ (q : Asked) (later : List Asked) (world other : World) (given : Reply) (replies : List Reply)
      (sane : Sane world) (too : Sane other) (alike : Alike world other)
      (kept : get world.rounds r ≡ Some round) (none : HasNone world) (also : HasNone other)
      (typed : All IsTimed (map timed (q ∷ later))) (before : All (λ asked. asked.0 < end_of round)
      (map timed (q ∷ later))) (run : AnsweredRun world (q ∷ later) (given ∷ replies) last) where
    head_timed : IsTimed (timed q)
    head_timed = All-head IsTimed (timed q) (map timed later) typed

    pub early : q.moment < end_of round
    early = All-head (λ asked. asked.0 < end_of round) (timed q) (map timed later) before

    pub still_sane : Sane run.0
    still_sane = next_sane q world other run.0 given sane too alike kept none also head_timed early run.1

    pub still_kept : get run.0.rounds r ≡ Some round
    still_kept = next_kept q world other run.0 given sane too alike kept none also head_timed early run.1

    pub has_none : HasNone run.0
    has_none = next_none q world other run.0 given sane too alike kept none also head_timed early run.1

    module _ (answered : Reply) (after : World) (done : IsAnswered other (exchanged_asked ex q) answered after) where
      pub sane_with : Sane after
      sane_with = after_sane q world other run.0 given sane too alike kept none also head_timed early run.1 answered
          after done

      pub none_with : HasNone after
      none_with = after_none q world other run.0 given sane too alike kept none also head_timed early run.1 answered
          after done

      pub alike_with : Alike run.0 after
      alike_with = both_alike q world other run.0 given sane too alike kept none also head_timed early run.1 answered
          after done

  abbrev Claim : List Asked → Type 0
  Claim list = (world other end : World) (replies others : List Reply) → Sane world → Sane other → Alike world other
      → get world.rounds r ≡ Some round → HasNone world → HasNone other →
      All IsTimed (map timed list) → All (λ asked. asked.0 < end_of round) (map timed list)
      → AnsweredRun world list replies last → AnsweredRun other (exchange list) others end →
      replies_to e.key (map timed (exchange list)) others ≡ replies_to e.key (map timed list)
      (exchanged_replies r a b (map timed list) replies)

  one_more : (q : Asked) (later : List Asked) (world other end : World) (given answered : Reply)
      (replies others : List Reply) → Claim later → Sane world → Sane other → Alike world other
      → get world.rounds r ≡ Some round → HasNone world → HasNone other →
      All IsTimed (map timed (q ∷ later)) → All (λ asked. asked.0 < end_of round) (map timed (q ∷ later))
      → AnsweredRun world (q ∷ later) (given ∷ replies) last
      → AnsweredRun other (exchange (q ∷ later)) (answered ∷ others) end →
      replies_to e.key (map timed (exchange (q ∷ later))) (answered ∷ others) ≡ replies_to e.key (map timed (q ∷ later))
      (exchanged_replies r a b (map timed (q ∷ later)) (given ∷ replies))
  one_more q later world other end given answered replies others claim sane too alike kept none also typed before run
      swaps =
      let next : World = run.0 in
      let after : World = swaps.0 in
      let ours : List Reply = replies_to e.key (map timed later) (exchanged_replies r a b (map timed later) replies) in
      let theirs : List Reply = replies_to e.key (map timed (exchange later)) others in
      let remains : KeptRecords world last = run_remains world (map timed (q ∷ later)) (given ∷ replies) last
      (run_of world last (q ∷ later) (given ∷ replies) run) in
      let tail : theirs ≡ ours =
      claim next after end replies others
      (still_sane q later world other given replies sane too alike kept none also typed before run)
      (sane_with q later world other given replies sane too alike kept none also typed before run answered after
      swaps.1)
      (alike_with q later world other given replies sane too alike kept none also typed before run answered after
      swaps.1)
      (still_kept q later world other given replies sane too alike kept none also typed before run)
      (has_none q later world other given replies sane too alike kept none also typed before run)
      (none_with q later world other given replies sane too alike kept none also typed before run answered after
      swaps.1)
      (All-tail IsTimed (timed q) (map timed later) typed) (All-tail (λ asked. asked.0 < end_of round) (timed q)
      (map timed later) before) run.2 swaps.2 in
      elim (has_key e.key q.request.key) as (λ t. has_key e.key q.request.key ≡ t →
      (if t then answered ∷ theirs else theirs) ≡ (if t then exchanged_reply ex q.request.action given
      ∷ ours else ours)) [
        | true ↦ λ own.
            let told : answered ≡ exchanged_reply ex q.request.action given =
            exchanged_answers ex (in_round r) (swapped_apart r a b) (swapped_plain r a b) world other alike.people
            alike.rounds alike.places alike.testers sane.typed too.typed e alone q (exchanged_asked ex q) refl refl
            refl
            (looks_alike world other sane.typed too.typed alike kept none also q.moment
            (early q later world other given replies sane too alike kept none also typed before run))
            (e_calls last e settled there alone world remains q.request.key (asks_as e.key q.request.key own)) given
            answered next after run.1 swaps.1 in
            λ i. told i ∷ tail i
        | false ↦ λ not_own. tail
      ] refl

  pub sealed_from : (list : List Asked) → Claim list
  sealed_from [] world other end replies others sane too alike kept none also typed before run swaps = refl
  sealed_from (q ∷ later) world other end [] others sane too alike kept none also typed before run swaps = absurd run
  sealed_from (q ∷ later) world other end (given ∷ replies) [] sane too alike kept none also typed before run swaps =
      absurd swaps
  sealed_from (q ∷ later) world other end (given ∷ replies) (answered ∷ others) sane too alike kept none also typed
      before run swaps =
      one_more q later world other end given answered replies others (sealed_from later) sane too alike kept none also
      typed before run swaps

-- a world without answers in the round is as in the exchanged list
rows_at_first : (r a b : List ℕ) (world : World) → IsWorld world
    → ((key : AnswerKey) → key.round ≡ r → get world.answers key ≡ None) → (key : AnswerKey) →
    option_map (seen (swapped r a b) (in_round r)) (get world.answers key) ≡ option_map (seen as_is (in_round r))
    (get world.answers key)
rows_at_first r a b world typed none key = elim (get world.answers key) as
    (λ (o : Option AnswerRow). get world.answers key ≡ o → option_map (seen (swapped r a b) (in_round r)) o ≡ option_map
    (seen as_is (in_round r)) o) [
      | None ↦ λ gone. refl
      | Some row ↦ λ at.
          let shown : in_round r row.key.round ≡ false = elim (in_round r row.key.round) as
          (λ t. in_round r row.key.round ≡ t → t ≡ false) [
            | false ↦ λ h. refl
            | true ↦ λ h.
                let own : key.round ≡ r = ap (λ (k : AnswerKey). k.round) (sym (typed.answers key row at))
                ∙ (text_decides row.key.round r).0 h in
                let gone : Some row ≡ None = sym at ∙ none key own in
                absurd (cc)
          ] refl in
          ap Some (exchanged_whole (swapped r a b) (in_round r) (swapped_plain r a b) row shown
          ∙ sym (exchanged_whole as_is (in_round r) (λ id h x. refl) row shown))
    ] refl

-- so it is alike to itself, with the texts exchanged
pub alike_at_first : (r a b : List ℕ) (world : World) → IsWorld world
    → ((key : AnswerKey) → key.round ≡ r → get world.answers key ≡ None)
    → AlikeFor (swapped r a b) (in_round r) All_rows world world
alike_at_first r a b world typed none = record {
  people = refl;
  puzzles = refl;
  rounds = refl;
  places = refl;
  testers =
      refl;
  answers = λ key k. rows_at_first r a b world typed none key;
  protests = λ key k. refl;
}

-- the law
pub sealed_answers : SealedAnswers
sealed_answers world last end r a b round e list replies others sane typed h is_a is_b there alone run swaps =
    let settled : Sane last = run_sane world (map timed list) replies last typed (run_of world last list replies run)
    sane in
    sealed_from last e settled.typed there alone r a b is_a is_b round h.released h.sealed list world world end replies
    others sane sane
    (alike_at_first r a b world sane.typed h.none) h.kept (λ published. h.none) (λ published. h.none) typed h.before run
    swaps
