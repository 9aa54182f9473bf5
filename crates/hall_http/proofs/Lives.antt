-- What bytes tell over a life of the hall.
use Rattle.std.proofs.Common.{◌≡◌, ◌≢◌, ◌==◌, inl, inr, ℕ, Bool, true, false, cond, not, List, [], ◌∷◌, map, get_or}
use Rattle.std.proofs.Common.{Contains, Option, Some, None, Ok, refl, sym, ap, ◌∙◌, subst, arith}
use Rattle.std.specs.Prelude.{◌⊎◌, ◌<◌, All, if◌then◌else◌}
use Rattle.std.specs.List.{filter}
use Rattle.std.proofs.lemmas.Bool.{false≢true}
use Rattle.std.proofs.lemmas.List.Elements.{All-head, All-tail, All-nil, All-cons, Contains-append_left}
use Rattle.std.proofs.lemmas.List.Elements.{Contains-append_right, Contains-append_cases}
use Rattle.serde_json.specs.Written.{compact_text}
use Rattle.hall_policy.specs.World.{World, end_of, same_text}
use Rattle.hall_policy.specs.declared.record.Person.{Person}
use Rattle.hall_policy.specs.declared.request.Action.{Action}
use Rattle.hall_policy.specs.declared.request.Action.TheVariants as action
use Rattle.hall_policy.specs.declared.request.Request.{Request}
use Rattle.hall_policy.proofs.Texts.{and_second}
use Rattle.hall_store.specs.Caller.{caller_of}
use Rattle.hall_desk.specs.Exchanged.{swapped, exchanged_request, exchanged_reply, IsSealedRound}
use Rattle.hall_desk.specs.History.{Event, requested, seeded, History, IsTyped, events_of}
use Rattle.hall_desk.specs.Lives.{reply_to, is_e_or_none, is_told, is_others_event, without_others, HappenAgain}
use Rattle.hall_desk.specs.Lives.{PublishesApart, timed_requests, exchanged_event}
use Rattle.hall_desk.specs.Run.{IsTimed}
use Rattle.hall_desk.specs.Step.{Step}
use Rattle.hall_desk.specs.Without.{is_other_person, is_certify}
use Rattle.hall_desk.specs.declared.reply.Reply.{Reply}
use Rattle.hall_desk.specs.declared.reply.Reply.TheVariants as reply
use Rattle.hall_desk.proofs.Histories.{runs_are_histories}
use Rattle.hall_desk.proofs.OthersLives.{answered_serves, histories_hide_others}
use Rattle.hall_desk.proofs.SealedLives.{histories_hide_answers}
use Rattle.hall_http.specs.declared.status.MediaType.{MediaType}
use Rattle.hall_http.specs.declared.status.MediaType.TheVariants as media
use Rattle.hall_http.specs.declared.status.Status.{Status}
use Rattle.hall_http.specs.declared.status.Status.TheVariants as status
use Rattle.hall_http.specs.Request.{RequestOf, AsksRequest}
use Rattle.hall_http.specs.Reply.{BytesOf, wire_bytes, denied_status, reply_data, unavailable_data}
use Rattle.hall_http.specs.Answered.{IsRefused}
use Rattle.hall_http.specs.Connection.{Exchange}
use Rattle.hall_http.specs.Serving.{IsNoRequestMade, IsRequestMade, AreRequestsMade}
use Rattle.hall_http.specs.Told.{AsksFor, AsksForOther, ComesAgain, is_others}
use Rattle.hall_http.specs.Lives.{Occurrence, bytes_came, people_came, AreEvents, RunsOverAreLives, is_told_request}
use Rattle.hall_http.specs.Lives.{AreToldIn, IsServedAlike, is_served_reply, is_served_event, served_events}
use Rattle.hall_http.specs.Lives.{certifications, AreWithoutIn, BytesOfLivesHideOthers, AreExchangedIn, AreBytesIn}
use Rattle.hall_http.specs.Lives.{told_replies, BytesOfLivesHideAnswers}
use Rattle.hall_http.proofs.Told.{one_spelling, same_request, no_request, one_refusal, asks_again, not_both}

-- ---- 503 among bytes
-- the first digit of a status
first_digit : Status → ℕ
first_digit status.Ok = 50
first_digit status.BadRequest = 52
first_digit status.Forbidden = 52
first_digit status.NotFound = 52
first_digit status.Unavailable = 53

digit_at : (s : Status) (m : MediaType) (body : List ℕ) → get_or (wire_bytes s m body) 9 0 ≡ first_digit s
unfolding first_digit
digit_at status.Ok m body = refl
digit_at status.BadRequest m body = refl
digit_at status.Forbidden m body = refl
digit_at status.NotFound m body = refl
digit_at status.Unavailable m body = refl

one_digit : (s : Status) (m : MediaType) (body text : List ℕ) → text ≡ wire_bytes s m body
    → BytesOf reply.Unavailable text → first_digit s ≡ first_digit status.Unavailable
one_digit s m body text is other =
    sym (digit_at s m body) ∙ ap (λ (bytes : List ℕ). get_or bytes 9 0) (sym is ∙ other)
    ∙ digit_at status.Unavailable media.Json (compact_text unavailable_data)

not_ok : first_digit status.Ok ≡ first_digit status.Unavailable → ⊥
unfolding first_digit
not_ok e = omega arith

not_denied : (b : Bool) → first_digit (if b then status.NotFound else status.Forbidden) ≡ first_digit status.Unavailable
    → ⊥
unfolding first_digit
not_denied true e = omega arith
not_denied false e = omega arith

-- no other reply has the bytes of 503
only_unavailable : (given : Reply) (text : List ℕ) → BytesOf given text → BytesOf reply.Unavailable text
    → given ≡ reply.Unavailable
only_unavailable reply.Unavailable text is other = refl
only_unavailable (reply.Table table) text is other = absurd (not_ok
    (one_digit status.Ok media.Plain table text is other))
only_unavailable (reply.Denied rule) text is other =
    absurd (not_denied (rule == 4) (one_digit (denied_status rule) media.Json
    (compact_text (reply_data (reply.Denied rule))) text is other))
only_unavailable given text is other = absurd (not_ok (one_digit status.Ok media.Json (compact_text (reply_data given))
    text is other))

unavailable_if : (given : Reply) → is_served_reply given ≡ false → given ≡ reply.Unavailable
unavailable_if reply.Unavailable h = refl
unavailable_if _ h = absurd (false≢true (sym h))

served_if : (given : Reply) → is_served_reply given ≡ true → given ≢ reply.Unavailable
served_if given h lacks = false≢true (sym (ap is_served_reply lacks) ∙ h)

-- ---- events without those that were answered 503
dropped : (t : ℕ) (request : Request) (given : Reply) (rest : List Event) → given ≡ reply.Unavailable
    → served_events (requested t request given ∷ rest) ≡ served_events rest
dropped t request given rest lacks = ap (λ (g : Reply). cond (is_served_reply g)
    (requested t request g ∷ served_events rest) (served_events rest)) lacks

kept : (t : ℕ) (request : Request) (given : Reply) (rest : List Event) → is_served_reply given ≡ true
    → served_events (requested t request given ∷ rest) ≡ requested t request given ∷ served_events rest
kept t request given rest serves = ap (λ b. cond b (requested t request given ∷ served_events rest)
    (served_events rest)) serves

world_stays : (world next : World) (t : ℕ) (request : Request) (given : Reply) → given ≡ reply.Unavailable
    → Step world t request given next → next ≡ world
world_stays world next t request given lacks (inl none) = none.1
world_stays world next t request given lacks (inr found) = absurd (answered_serves world next _ given found.1 lacks)

served_life : (events : List Event) (world last : World) → History world events last
    → History world (served_events events) last
served_life [] world last life = life
served_life (seeded people given ∷ rest) world last life = (life.0, life.1, served_life rest life.0 last life.2)
served_life (requested t request given ∷ rest) world last life =
    elim (is_served_reply given) as (λ b. is_served_reply given ≡ b
    → History world (cond b (requested t request given ∷ served_events rest) (served_events rest)) last) [
      | true ↦ λ h. (life.0, life.1, served_life rest life.0 last life.2)
      | false ↦ λ h. subst (λ (w : World). History w (served_events rest) last)
          (world_stays world life.0 t request given (unavailable_if given h) life.1)
          (served_life rest life.0 last life.2)
    ] refl

served_typed : (events : List Event) → All IsTyped events → All IsTyped (served_events events)
served_typed [] typed = typed
served_typed (event ∷ rest) typed =
    let tail = served_typed rest (All-tail IsTyped event rest typed) in
    elim (is_served_event event) as (λ b. All IsTyped (cond b (event ∷ served_events rest) (served_events rest))) [
      | true ↦ All-cons IsTyped event (served_events rest) (All-head IsTyped event rest typed) tail
      | false ↦ tail
    ]

is_among : (events : List Event) (event : Event) → Contains (served_events events) event → Contains events event
is_among [] event there = there
is_among (x ∷ rest) event there =
    elim (is_served_event x) as (λ b. Contains (cond b (x ∷ served_events rest) (served_events rest)) event
    → Contains (x ∷ rest) event) [
      | true ↦ λ h. elim (Contains-append_cases (x ∷ []) (served_events rest) event h) [
        | inl first ↦ Contains-append_left (x ∷ []) rest event first
        | inr later ↦ Contains-append_right (x ∷ []) rest event (is_among rest event later)
      ]
      | false ↦ λ h. Contains-append_right (x ∷ []) rest event (is_among rest event h)
    ] there

served_apart : (last : World) (e : Person) (events told : List Event) → PublishesApart last e events told
    → PublishesApart last e (served_events events) (served_events told)
served_apart last e events told apart id published asked among is_publication in_list =
    apart id published asked (is_among told published among) is_publication (is_among events asked in_list)

timed_served : (P : ℕ × Request → Type 0) (events : List Event) → All P (timed_requests events)
    → All P (timed_requests (served_events events))
timed_served P [] before = before
timed_served P (seeded people given ∷ rest) before = timed_served P rest before
timed_served P (requested t request given ∷ rest) before =
    let tail = timed_served P rest (All-tail P (t, request) (timed_requests rest) before) in
    elim (is_served_reply given) as (λ b. All P (timed_requests
    (cond b (requested t request given ∷ served_events rest) (served_events rest)))) [
      | true ↦ All-cons P (t, request) (timed_requests (served_events rest))
          (All-head P (t, request) (timed_requests rest) before) tail
      | false ↦ tail
    ]

-- an event that fails a test, served or not
skipped : (test : Event → Bool) (event : Event) (rest : List Event) → test event ≡ false
    → filter test (served_events (event ∷ rest)) ≡ filter test (served_events rest)
skipped test event rest fails = elim (is_served_event event) as
    (λ b. filter test (cond b (event ∷ served_events rest) (served_events rest)) ≡ filter test (served_events rest)) [
      | true ↦ ap (λ b. cond b (event ∷ filter test (served_events rest)) (filter test (served_events rest))) fails
      | false ↦ refl
    ]

-- ---- what comes twice
-- a reply to bytes of which no request was made
abbrev IsUnmade : Exchange → Type 0
IsUnmade x = IsRefused x.request x.reply ⊎ BytesOf reply.Unavailable x.reply

unmade : (x : Exchange) → IsNoRequestMade x → IsUnmade x
unmade x (inl (moment, at, refused)) = inl refused
unmade x (inr lacking) = inr lacking

module _ (turn : Request → Request) where
  -- bytes that ask for a request come again as those that ask for the turned one
  record Returns (x y : Exchange) : Type 0 where
    moment : y.moment ≡ x.moment
    turned : (request : Request) → RequestOf x.request (Ok request) → RequestOf y.request (Ok (turn request))
    back : (request : Request) → RequestOf y.request (Ok request) → AsksFor (λ other. true) x

  -- neither is an event that is served
  record AreLost (x y : Exchange) (xs ys : List Occurrence) (whole left : List Event) : Type 0 where
    more : List Event
    less : List Event
    whole_is : served_events whole ≡ served_events more
    left_is : served_events left ≡ served_events less
    made : AreEvents xs more
    remade : AreEvents ys less
    first : IsUnmade x
    second : IsUnmade y

  -- both are served
  record AreServed (x y : Exchange) (xs ys : List Occurrence) (whole left : List Event) : Type 0 where
    t : ℕ
    request : Request
    given : Reply
    answered : Reply
    more : List Event
    less : List Event
    whole_is : served_events whole ≡ requested t request given ∷ served_events more
    left_is : served_events left ≡ requested t (turn request) answered ∷ served_events less
    made : AreEvents xs more
    remade : AreEvents ys less
    reads : RequestOf x.request (Ok request)
    written : BytesOf given x.reply
    rewritten : BytesOf answered y.reply
    serves : given ≢ reply.Unavailable
    serves_too : answered ≢ reply.Unavailable

  come_twice : (x y : Exchange) (xs ys : List Occurrence) (whole left : List Event) → Returns x y → IsServedAlike x y
      → AreEvents (bytes_came x ∷ xs) whole → AreEvents (bytes_came y ∷ ys) left →
      AreLost x y xs ys whole left ⊎ AreServed x y xs ys whole left
  come_twice x y xs ys whole left comes alike (inl (missed, made)) (inl (lost, remade)) = inl (record {
    more = whole;
    less = left;
    whole_is = refl;
    left_is = refl;
    made = made;
    remade = remade;
    first = unmade x missed;
    second = unmade y lost;
  })
  come_twice x y xs ys whole left comes alike (inl (inl (moment, at, refused), made))
      (inr (u, asked, answered, less, are_too, is_too, remade)) =
      let found = comes.back asked is_too.reads in
      absurd (no_request x refused.found found.0 refused.reads found.1)
  come_twice x y xs ys whole left comes alike (inl (inr lacking, made))
      (inr (u, asked, answered, less, are_too, is_too, remade)) =
      let lacks = alike.0 lacking in
      inl (record {
        more = whole;
        less = less;
        whole_is = refl;
        left_is = ap served_events are_too ∙ dropped u asked answered less
            (only_unavailable answered y.reply is_too.written lacks);
        made = made;
        remade = remade;
        first = inr lacking;
        second = inr lacks;
      })
  come_twice x y xs ys whole left comes alike (inr (t, request, given, more, are, is, made))
      (inl (inl (moment, at, refused), remade)) =
      absurd (no_request y refused.found (turn request) refused.reads (comes.turned request is.reads))
  come_twice x y xs ys whole left comes alike (inr (t, request, given, more, are, is, made))
      (inl (inr lacking, remade)) =
      let lacks = alike.1 lacking in
      inl (record {
        more = more;
        less = left;
        whole_is = ap served_events are ∙ dropped t request given more
            (only_unavailable given x.reply is.written lacks);
        left_is = refl;
        made = made;
        remade = remade;
        first = inr lacks;
        second = inr lacking;
      })
  come_twice x y xs ys whole left comes alike (inr (t, request, given, more, are, is, made))
      (inr (u, asked, answered, less, are_too, is_too, remade)) =
      elim (is_served_reply given) as (λ b. is_served_reply given ≡ b → AreLost x y xs ys whole left
      ⊎ AreServed x y xs ys whole left) [
        | false ↦ λ h.
            let none = unavailable_if given h in
            let lacks = alike.0 (subst (λ (g : Reply). BytesOf g x.reply) none is.written) in
            inl (record {
              more = more;
              less = less;
              whole_is = ap served_events are ∙ dropped t request given more none;
              left_is = ap served_events are_too ∙ dropped u asked answered less
                  (only_unavailable answered y.reply is_too.written lacks);
              made = made;
              remade = remade;
              first = inr (subst (λ (g : Reply). BytesOf g x.reply) none is.written);
              second = inr lacks;
            })
        | true ↦ λ h. elim (is_served_reply answered) as (λ b. is_served_reply answered ≡ b
            → AreLost x y xs ys whole left ⊎ AreServed x y xs ys whole left) [
              | false ↦ λ k.
                  let lacks = alike.1 (subst (λ (g : Reply). BytesOf g y.reply) (unavailable_if answered k)
                  is_too.written) in
                  absurd (served_if given h (only_unavailable given x.reply is.written lacks))
              | true ↦ λ k.
                  let same : asked ≡ turn request = same_request y asked (turn request) is_too.reads
                  (comes.turned request is.reads) in
                  let moments : Some u ≡ Some t = sym is_too.moment ∙ comes.moment ∙ is.moment in
                  let moment : u ≡ t = cc in
                  inr (record {
                    t = t;
                    request = request;
                    given = given;
                    answered = answered;
                    more = more;
                    less = less;
                    whole_is = ap served_events are ∙ kept t request given more h;
                    left_is = ap served_events are_too ∙ kept u asked answered less k
                        ∙ (λ i. requested (moment i) (same i) answered ∷ served_events less);
                    made = made;
                    remade = remade;
                    reads = is.reads;
                    written = is.written;
                    rewritten = is_too.written;
                    serves = served_if given h;
                    serves_too = served_if answered k;
                  })
            ] refl
      ] refl

-- replies to requests to certify are the same, one after another
certified_on : (b : Bool) (given answered : Reply) (rest others : List Reply)
    → cond b (given ∷ rest) rest ≡ cond b (answered ∷ others) others → (b ≡ true → given ≡ answered) × (rest ≡ others)
certified_on true given answered rest others same = let head : given ≡ answered = cc in let tail : rest ≡ others = cc in
    (λ _. head, tail)
certified_on false given answered rest others same = (λ h. absurd (false≢true h), same)

decided : (b : Bool) → (b ≡ true → ⊥) → b ≡ false
decided true h = absurd (h refl)
decided false h = refl

-- a test of the request that bytes ask for, or none
abbrev Decides : (Request → Bool) → Exchange → Type 0
Decides test x = AsksFor test x ⊎ ¬ (AsksRequest x.request)

clash : (test : Request → Bool) (x y : Exchange) → y.request ≡ x.request → Decides test x → AsksForOther test y → ⊥
clash test x y same (inl asks) other = not_both test x asks (asks_again (λ request. not (test request)) x y same other)
clash test x y same (inr never) other = never (
  other.0,
  subst (λ (bytes : List ℕ). RequestOf bytes (Ok other.0)) same
      other.1,
)

passes : (test : Request → Bool) (x : Exchange) (request : Request) → RequestOf x.request (Ok request) → Decides test x
    → test request ≡ true
passes test x request reads (inl asks) = ap test (same_request x request asks.0 reads asks.1) ∙ asks.2
passes test x request reads (inr never) = absurd (never (request, reads))

fails_for : (test : Request → Bool) (x : Exchange) (request : Request) → RequestOf x.request (Ok request)
    → AsksForOther test x → test request ≡ false
fails_for test x request reads other = decided (test request) (λ h. not_both test x (request, reads, h) other)

-- ---- others
comes_back : (x y : Exchange) → ComesAgain x y → Returns (λ request. request) x y
comes_back x y same = record {
  moment = same.1;
  turned = λ request reads. subst (λ (bytes : List ℕ). RequestOf bytes (Ok request)) (sym same.0) reads;
  back = λ request reads. (request, subst (λ (bytes : List ℕ). RequestOf bytes (Ok request)) same.0 reads, refl);
}

lost_alike : (x y : Exchange) → ComesAgain x y → IsServedAlike x y → IsUnmade x → IsUnmade y → x.reply ≡ y.reply
lost_alike x y same alike (inl refused) (inl also) =
    one_refusal x.request x.reply y.reply refused (subst (λ (bytes : List ℕ). IsRefused bytes y.reply) same.0 also)
lost_alike x y same alike (inr lacking) also = one_spelling reply.Unavailable reply.Unavailable x.reply y.reply refl
    lacking (alike.0 lacking)
lost_alike x y same alike (inl refused) (inr lacking) = one_spelling reply.Unavailable reply.Unavailable x.reply y.reply
    refl (alike.1 lacking) lacking

module _ (last : World) (e : Person) where
  abbrev stays_in : Event → Bool
  stays_in event = not (is_others_event last e event)

  abbrev test : Request → Bool
  test request = is_told_request last e request

  others_not_told : (found : Option Person) → is_other_person e found ≡ true → is_e_or_none e found ≡ false
  others_not_told None is_other = absurd (false≢true is_other)
  others_not_told (Some person) is_other = not_so (same_text person.name e.name) (and_second _ _ is_other)
    where
      not_so : (b : Bool) → not b ≡ true → b ≡ false
      not_so true h = absurd (false≢true h)
      not_so false h = refl

  -- a request of others is in neither list
  record IsStruck (xs : List Occurrence) (whole : List Event) : Type 0 where
    more : List Event
    made : AreEvents xs more
    without : without_others last e (served_events whole) ≡ without_others last e (served_events more)
    untold : filter (is_told last e) (served_events whole) ≡ filter (is_told last e) (served_events more)

  struck : (x : Exchange) (xs : List Occurrence) (whole : List Event) → AreEvents (bytes_came x ∷ xs) whole
      → AsksFor (is_others last e) x → IsStruck xs whole
  struck x xs whole (inl (missed, made)) asks = record { more = whole; made = made; without = refl; untold = refl }
  struck x xs whole (inr (t, request, given, more, are, is, made)) asks =
      let other : is_others last e request ≡ true = passes (is_others last e) x request is.reads (inl asks) in
      let event : Event = requested t request given in
      record {
        more = more;
        made = made;
        without = ap (λ (es : List Event). without_others last e (served_events es)) are
            ∙ skipped stays_in event more (ap not other);
        untold = ap (λ (es : List Event). filter (is_told last e) (served_events es)) are
            ∙ skipped (is_told last e) event more (others_not_told (caller_of last request.key) other);
      }

  abbrev Lines : List Occurrence → Type 0
  Lines xs = (ys : List Occurrence) (whole left : List Event) → AreEvents xs whole → AreEvents ys left
      → AreWithoutIn last e xs ys →
      certifications (without_others last e (served_events whole)) ≡ certifications (served_events left)
      → HappenAgain (without_others last e (served_events whole)) (served_events left)

  line_on : (x : Exchange) (xs : List Occurrence) → Lines xs
      → (y : Exchange) (zs : List Occurrence) (whole left : List Event) → ¬ (AsksFor (is_others last e) x)
      → AreWithoutIn last e xs zs →
      certifications (without_others last e (served_events whole)) ≡ certifications (served_events left) →
      AreLost (λ request. request) x y xs zs whole left ⊎ AreServed (λ request. request) x y xs zs whole left →
      HappenAgain (without_others last e (served_events whole)) (served_events left)
  line_on x xs claim y zs whole left own without same (inl lost) =
      subst (λ (es : List Event). HappenAgain (without_others last e es) (served_events left)) (sym lost.whole_is)
      (subst (λ (es : List Event). HappenAgain (without_others last e (served_events lost.more)) es) (sym lost.left_is)
      (claim zs lost.more lost.less lost.made lost.remade without
      (sym (ap (λ (es : List Event). certifications (without_others last e es)) lost.whole_is) ∙ same
      ∙ ap certifications lost.left_is)))
  line_on x xs claim y zs whole left own without same (inr both) =
      let event : Event = requested both.t both.request both.given in
      let again : Event = requested both.t both.request both.answered in
      let stays : is_others last e both.request ≡ false = decided (is_others last e both.request)
      (λ h. own (both.request, both.reads, h)) in
      let rest : List Event = without_others last e (served_events both.more) in
      let whole_is : without_others last e (served_events whole) ≡ event ∷ rest =
      ap (without_others last e) both.whole_is ∙ ap (λ b. cond (not b) (event ∷ rest) rest) stays in
      let certified = certified_on (is_certify both.request.action) both.given both.answered (certifications rest)
      (certifications (served_events both.less))
      (sym (ap certifications whole_is) ∙ same ∙ ap certifications both.left_is) in
      subst (λ (es : List Event). HappenAgain es (served_events left)) (sym whole_is)
      (subst (λ (es : List Event). HappenAgain (event ∷ rest) es) (sym both.left_is) (
        (refl, refl, (λ h. absurd (both.serves h), λ h. absurd (both.serves_too h)), certified.0),
        claim zs both.more both.less both.made both.remade without certified.1,
      ))

  lines : (xs : List Occurrence) → Lines xs
  lines [] ys whole left made remade none same =
      let nil : left ≡ [] = subst (λ (zs : List Occurrence). AreEvents zs left) none remade in
      subst (λ (es : List Event). HappenAgain (without_others last e (served_events es)) (served_events left))
      (sym made)
      (subst (λ (es : List Event). HappenAgain [] (served_events es)) (sym nil) tt)
  lines (bytes_came x ∷ xs) ys whole left made remade (inl (asks, without)) same =
      let gone = struck x xs whole made asks in
      subst (λ (es : List Event). HappenAgain es (served_events left)) (sym gone.without)
      (lines xs ys gone.more left gone.made remade without (sym (ap certifications gone.without) ∙ same))
  lines (bytes_came x ∷ xs) ys whole left made remade (inr (own, y, zs, are, again, alike, without)) same =
      line_on x xs (lines xs) y zs whole left own without same
      (come_twice (λ request. request) x y xs zs whole left (comes_back x y again) alike made
      (subst (λ (ws : List Occurrence). AreEvents ws left) are remade))
  lines (people_came people given ∷ xs) ys whole left made remade (answered, zs, are, alike, without) same =
      let (more, whole_is, made_more) = made in
      let (less, left_is, remade_less) = subst (λ (ws : List Occurrence). AreEvents ws left) are remade in
      subst (λ (es : List Event). HappenAgain (without_others last e (served_events es)) (served_events left))
      (sym whole_is)
      (subst (λ (es : List Event). HappenAgain (seeded people given ∷ without_others last e (served_events more))
      (served_events es)) (sym left_is) (
        (refl, alike),
        lines xs zs more less made_more remade_less without
            (sym (ap (λ (es : List Event). certifications (without_others last e (served_events es))) whole_is) ∙ same
            ∙ ap (λ (es : List Event). certifications (served_events es)) left_is),
      ))

  -- the same replies have the same bytes
  abbrev SameTold : List Occurrence → Type 0
  SameTold xs = (ys : List Occurrence) (whole left : List Event) (texts words : List (List ℕ)) → AreEvents xs whole
      → AreEvents ys left → AreWithoutIn last e xs ys →
      filter (is_told last e) (served_events whole) ≡ filter (is_told last e) (served_events left)
      → AreToldIn test xs texts → AreToldIn test ys words → texts ≡ words

  lost_on : (x : Exchange) (xs : List Occurrence) → SameTold xs
      → (y : Exchange) (zs : List Occurrence) (whole left : List Event) (texts words : List (List ℕ)) → ComesAgain x y
      → IsServedAlike x y →
      AreWithoutIn last e xs zs → filter (is_told last e) (served_events whole) ≡ filter (is_told last e)
      (served_events left) → AreLost (λ request. request) x y xs zs whole left →
      AreToldIn test (bytes_came x ∷ xs) texts → AreToldIn test (bytes_came y ∷ zs) words → texts ≡ words
  lost_on x xs claim y zs whole left texts words again alike without same lost (inl (one, more, are, told))
      (inl (other, less, are_too, told_too)) =
      let head = lost_alike x y again alike lost.first lost.second in
      let tail = claim zs lost.more lost.less more less lost.made lost.remade without
      (sym (ap (filter (is_told last e)) lost.whole_is) ∙ same ∙ ap (filter (is_told last e)) lost.left_is) told
      told_too in
      are ∙ (λ i. head i ∷ tail i) ∙ sym are_too
  lost_on x xs claim y zs whole left texts words again alike without same lost (inr (one, told))
      (inr (other, told_too)) =
      claim zs lost.more lost.less texts words lost.made lost.remade without
      (sym (ap (filter (is_told last e)) lost.whole_is) ∙ same ∙ ap (filter (is_told last e)) lost.left_is) told
      told_too
  lost_on x xs claim y zs whole left texts words again alike without same lost (inl one) (inr other) = absurd
      (clash test x y again.0 one.0 other.0)
  lost_on x xs claim y zs whole left texts words again alike without same lost (inr one) (inl other) = absurd
      (clash test y x (sym again.0) other.0 one.0)

  served_on : (x : Exchange) (xs : List Occurrence) → SameTold xs
      → (y : Exchange) (zs : List Occurrence) (whole left : List Event) (texts words : List (List ℕ)) → ComesAgain x y →
      AreWithoutIn last e xs zs → filter (is_told last e) (served_events whole) ≡ filter (is_told last e)
      (served_events left) → AreServed (λ request. request) x y xs zs whole left →
      AreToldIn test (bytes_came x ∷ xs) texts → AreToldIn test (bytes_came y ∷ zs) words → texts ≡ words
  served_on x xs claim y zs whole left texts words again without same both (inl (one, more, are, told))
      (inl (other, less, are_too, told_too)) =
      let event : Event = requested both.t both.request both.given in
      let twin : Event = requested both.t both.request both.answered in
      let ours : List Event = filter (is_told last e) (served_events both.more) in
      let theirs : List Event = filter (is_told last e) (served_events both.less) in
      let told_here : test both.request ≡ true = passes test x both.request both.reads one in
      let lists : event ∷ ours ≡ twin ∷ theirs =
      sym (ap (filter (is_told last e)) both.whole_is ∙ ap (λ b. cond b (event ∷ ours) ours) told_here) ∙ same
      ∙ ap (filter (is_told last e)) both.left_is ∙ ap (λ b. cond b (twin ∷ theirs) theirs) told_here in
      let events : event ≡ twin = cc in
      let tails : ours ≡ theirs = cc in
      let replies : both.given ≡ both.answered = ap reply_to events in
      let head : x.reply ≡ y.reply = one_spelling both.given both.answered x.reply y.reply replies both.written
      both.rewritten in
      let tail = claim zs both.more both.less more less both.made both.remade without tails told told_too in
      are ∙ (λ i. head i ∷ tail i) ∙ sym are_too
  served_on x xs claim y zs whole left texts words again without same both (inr (one, told)) (inr (other, told_too)) =
      let event : Event = requested both.t both.request both.given in
      let twin : Event = requested both.t both.request both.answered in
      let ours : List Event = filter (is_told last e) (served_events both.more) in
      let theirs : List Event = filter (is_told last e) (served_events both.less) in
      let untold : test both.request ≡ false = fails_for test x both.request both.reads one in
      let lists : ours ≡ theirs =
      sym (ap (filter (is_told last e)) both.whole_is ∙ ap (λ b. cond b (event ∷ ours) ours) untold) ∙ same
      ∙ ap (filter (is_told last e)) both.left_is ∙ ap (λ b. cond b (twin ∷ theirs) theirs) untold in
      claim zs both.more both.less texts words both.made both.remade without lists told told_too
  served_on x xs claim y zs whole left texts words again without same both (inl one) (inr other) = absurd
      (clash test x y again.0 one.0 other.0)
  served_on x xs claim y zs whole left texts words again without same both (inr one) (inl other) = absurd
      (clash test y x (sym again.0) other.0 one.0)

  struck_on : (x : Exchange) (xs : List Occurrence) (texts : List (List ℕ)) → AsksFor (is_others last e) x
      → AreToldIn test (bytes_came x ∷ xs) texts → AreToldIn test xs texts
  struck_on x xs texts asks (inl (one, more, are, told)) =
      absurd (false≢true (sym (others_not_told (caller_of last asks.0.key) asks.2) ∙ passes test x asks.0 asks.1 one))
  struck_on x xs texts asks (inr (fails, told)) = told

  same_told : (xs : List Occurrence) → SameTold xs
  same_told [] ys whole left texts words made remade none same told told_too =
      told ∙ sym (subst (λ (zs : List Occurrence). AreToldIn test zs words) none told_too)
  same_told (bytes_came x ∷ xs) ys whole left texts words made remade (inl (asks, without)) same told told_too =
      let gone = struck x xs whole made asks in
      same_told xs ys gone.more left texts words gone.made remade without (sym gone.untold ∙ same)
      (struck_on x xs texts asks told) told_too
  same_told (bytes_came x ∷ xs) ys whole left texts words made remade (inr (own, y, zs, are, again, alike, without))
      same told told_too =
      let others = subst (λ (ws : List Occurrence). AreToldIn test ws words) are told_too in
      elim (come_twice (λ request. request) x y xs zs whole left (comes_back x y again) alike made
      (subst (λ (ws : List Occurrence). AreEvents ws left) are remade)) [
        | inl lost ↦ lost_on x xs (same_told xs) y zs whole left texts words again alike without same lost told others
        | inr both ↦ served_on x xs (same_told xs) y zs whole left texts words again without same both told others
      ]
  same_told (people_came people given ∷ xs) ys whole left texts words made remade (answered, zs, are, alike, without)
      same told told_too =
      let (more, whole_is, made_more) = made in
      let (less, left_is, remade_less) = subst (λ (ws : List Occurrence). AreEvents ws left) are remade in
      same_told xs zs more less texts words made_more remade_less without
      (sym (ap (λ (es : List Event). filter (is_told last e) (served_events es)) whole_is) ∙ same
      ∙ ap (λ (es : List Event). filter (is_told last e) (served_events es)) left_is)
      told (subst (λ (ws : List Occurrence). AreToldIn test ws words) are told_too)

-- the law
pub bytes_of_lives_hide_others : BytesOfLivesHideOthers
bytes_of_lives_hide_others world last end e xs ys texts others whole left sane there alone without apart apart_too same
    told told_too =
    same_told last e xs ys whole.events left.events texts others whole.made left.made without
    (histories_hide_others world last end e (served_events whole.events) (served_events left.events) sane
    (served_typed whole.events whole.typed) (served_life whole.events world last whole.life)
    (served_life left.events world end left.life)
    there alone (lines last e xs ys whole.events left.events whole.made left.made without same)
    (served_apart last e whole.events whole.events apart) (served_apart last e whole.events left.events apart_too)) told
    told_too

-- ---- runs
typed_events : (requests : List (ℕ × Request)) (replies : List Reply) → All IsTimed requests
    → All IsTyped (events_of requests replies)
typed_events [] replies timed = All-nil IsTyped
typed_events (q ∷ requests) [] timed = All-nil IsTyped
typed_events (q ∷ requests) (given ∷ replies) timed =
    let is = All-head IsTimed q requests timed in
    All-cons IsTyped (requested q.0 q.1 given) (events_of requests replies) (is.moment, is.request)
    (typed_events requests replies (All-tail IsTimed q requests timed))

made_events : (xs : List Exchange) (requests : List (ℕ × Request)) (replies : List Reply)
    → AreRequestsMade xs requests replies → AreEvents (map bytes_came xs) (events_of requests replies)
made_events [] requests replies made = λ i. events_of (made.0 i) (made.1 i)
made_events (x ∷ xs) requests replies (inl (missed, made)) = inl (missed, made_events xs requests replies made)
made_events (x ∷ xs) requests replies (inr (q, given, later, rest, are, come, is, made)) =
    inr (q.0, q.1, given, events_of later rest, λ i. events_of (are i) (come i), is, made_events xs later rest made)

pub runs_over_are_lives : RunsOverAreLives
runs_over_are_lives old new xs run = record {
  events = events_of run.requests run.replies;
  typed = typed_events run.requests run.replies run.timed;
  life = runs_are_histories old new run.requests run.replies run.run;
  made = made_events xs run.requests run.replies run.made;
}

-- ---- the replies that one is told, as bytes
module _ (last : World) (e : Person) where
  abbrev asked_by : Request → Bool
  asked_by request = is_told_request last e request

  abbrev replies_in : List Event → List Reply
  replies_in events = told_replies last e (served_events events)

  missed_on : (x : Exchange) (xs : List Occurrence) (replies : List Reply) (texts : List (List ℕ)) → IsUnmade x
      → ((more : List (List ℕ)) → AreToldIn asked_by xs more → AreBytesIn asked_by xs replies more) →
      AreToldIn asked_by (bytes_came x ∷ xs) texts → AreBytesIn asked_by (bytes_came x ∷ xs) replies texts
  missed_on x xs replies texts missed claim (inl (one, more, are, told)) = inr
      (inl (missed, more, are, claim more told))
  missed_on x xs replies texts missed claim (inr (fails, told)) = inr (inr (fails, claim texts told))

  made_on : (x : Exchange) (xs : List Occurrence) (t : ℕ) (request : Request) (given : Reply) (later : List Event)
      (texts : List (List ℕ)) → IsRequestMade x (t, request) given → is_served_reply given ≡ true →
      ((more : List (List ℕ)) → AreToldIn asked_by xs more → AreBytesIn asked_by xs (replies_in later) more) →
      AreToldIn asked_by (bytes_came x ∷ xs) texts → AreBytesIn asked_by (bytes_came x ∷ xs)
      (replies_in (requested t request given ∷ later)) texts
  made_on x xs t request given later texts is serves claim (inl (one, more, are, told)) =
      let event : Event = requested t request given in
      let ours : List Event = filter (is_told last e) (served_events later) in
      let yes = passes asked_by x request is.reads one in
      let first : replies_in (event ∷ later) ≡ given ∷ replies_in later =
      ap (told_replies last e) (kept t request given later serves) ∙ ap (λ b. map reply_to (cond b (event ∷ ours) ours))
      yes in
      inl ((request, is.reads, yes), given, replies_in later, more, first, are, is.written, claim more told)
  made_on x xs t request given later texts is serves claim (inr (fails, told)) =
      let event : Event = requested t request given in
      let ours : List Event = filter (is_told last e) (served_events later) in
      let no = fails_for asked_by x request is.reads fails in
      let first : replies_in (event ∷ later) ≡ replies_in later =
      ap (told_replies last e) (kept t request given later serves) ∙ ap (λ b. map reply_to (cond b (event ∷ ours) ours))
      no in
      inr (inr (fails, subst (λ (gs : List Reply). AreBytesIn asked_by xs gs texts) (sym first) (claim texts told)))

  bytes_in : (xs : List Occurrence) (whole : List Event) (texts : List (List ℕ)) → AreEvents xs whole
      → AreToldIn asked_by xs texts → AreBytesIn asked_by xs (replies_in whole) texts
  bytes_in [] whole texts made told = (ap replies_in made, told)
  bytes_in (people_came people given ∷ xs) whole texts made told =
      subst (λ (es : List Event). AreBytesIn asked_by xs (replies_in es) texts) (sym made.1)
      (bytes_in xs made.0 texts made.2 told)
  bytes_in (bytes_came x ∷ xs) whole texts (inl (missed, made)) told =
      missed_on x xs (replies_in whole) texts (unmade x missed) (λ more there. bytes_in xs whole more made there) told
  bytes_in (bytes_came x ∷ xs) whole texts (inr (t, request, given, later, are, is, made)) told =
      subst (λ (es : List Event). AreBytesIn asked_by (bytes_came x ∷ xs) (replies_in es) texts) (sym are)
      (elim (is_served_reply given) as (λ b. is_served_reply given ≡ b
      → AreBytesIn asked_by (bytes_came x ∷ xs) (replies_in (requested t request given ∷ later)) texts) [
        | true ↦ λ h. made_on x xs t request given later texts is h (λ more there. bytes_in xs later more made there)
            told
        | false ↦ λ h.
            let none = unavailable_if given h in
            missed_on x xs (replies_in (requested t request given ∷ later)) texts
            (inr (subst (λ (g : Reply). BytesOf g x.reply) none is.written))
            (λ more there. subst (λ (gs : List Reply). AreBytesIn asked_by xs gs more)
            (sym (ap (told_replies last e) (dropped t request given later none)))
            (bytes_in xs later more made there)) told
      ] refl)

-- ---- two answers exchanged
-- a reply is 503 with texts exchanged where it is so without
refused_before : (ex : List ℕ → List ℕ → List ℕ) (a : Action) (given : Reply)
    → exchanged_reply ex a given ≡ reply.Unavailable → given ≡ reply.Unavailable
refused_before ex (action.Answers round) given h = of_listing round given h
  where
    of_listing : (round : List ℕ) (given : Reply) → exchanged_reply ex (action.Answers round) given ≡ reply.Unavailable
        → given ≡ reply.Unavailable
    of_listing round (reply.Answers lines) h = absurd (cc)
    of_listing round _ h = h
refused_before ex _ given h = h

module _ (r a b : List ℕ) where
  abbrev turn : Request → Request
  turn request = exchanged_request (swapped r a b) request

  abbrev turned_events : List Event → List Event
  turned_events events = map (exchanged_event (swapped r a b)) events

  abbrev Turns : List Occurrence → Type 0
  Turns xs = (ys : List Occurrence) (whole left : List Event) → AreEvents xs whole → AreEvents ys left
      → AreExchangedIn r a b xs ys →
      certifications (turned_events (served_events whole)) ≡ certifications (served_events left)
      → HappenAgain (turned_events (served_events whole)) (served_events left)

  turn_on : (x : Exchange) (xs : List Occurrence) → Turns xs
      → (y : Exchange) (zs : List Occurrence) (whole left : List Event) → AreExchangedIn r a b xs zs →
      certifications (turned_events (served_events whole)) ≡ certifications (served_events left)
      → AreLost turn x y xs zs whole left ⊎ AreServed turn x y xs zs whole left →
      HappenAgain (turned_events (served_events whole)) (served_events left)
  turn_on x xs claim y zs whole left exchange same (inl lost) =
      subst (λ (es : List Event). HappenAgain (turned_events es) (served_events left)) (sym lost.whole_is)
      (subst (λ (es : List Event). HappenAgain (turned_events (served_events lost.more)) es) (sym lost.left_is)
      (claim zs lost.more lost.less lost.made lost.remade exchange
      (sym (ap (λ (es : List Event). certifications (turned_events es)) lost.whole_is) ∙ same
      ∙ ap certifications lost.left_is)))
  turn_on x xs claim y zs whole left exchange same (inr both) =
      let shown : Reply = exchanged_reply (swapped r a b) both.request.action both.given in
      let event : Event = requested both.t (turn both.request) shown in
      let rest : List Event = turned_events (served_events both.more) in
      let certified = certified_on (is_certify (turn both.request).action) shown both.answered (certifications rest)
      (certifications (served_events both.less))
      (sym (ap (λ (es : List Event). certifications (turned_events es)) both.whole_is) ∙ same
      ∙ ap certifications both.left_is) in
      subst (λ (es : List Event). HappenAgain (turned_events es) (served_events left)) (sym both.whole_is)
      (subst (λ (es : List Event). HappenAgain (event ∷ rest) es) (sym both.left_is) (
        (
          refl,
          refl,
          (
            λ h. absurd (both.serves (refused_before (swapped r a b) both.request.action both.given h)),
            λ h.
                absurd (both.serves_too h),
          ),
          certified.0,
        ),
        claim zs both.more both.less both.made both.remade exchange certified.1,
      ))

  turns : (xs : List Occurrence) → Turns xs
  turns [] ys whole left made remade none same =
      let nil : left ≡ [] = subst (λ (zs : List Occurrence). AreEvents zs left) none remade in
      subst (λ (es : List Event). HappenAgain (turned_events (served_events es)) (served_events left)) (sym made)
      (subst (λ (es : List Event). HappenAgain [] (served_events es)) (sym nil) tt)
  turns (bytes_came x ∷ xs) ys whole left made remade (y, zs, are, exchanged, alike, exchange) same =
      turn_on x xs (turns xs) y zs whole left exchange same
      (come_twice turn x y xs zs whole left (record {
        moment = exchanged.moment;
        turned = exchanged.turned;
        back =
            exchanged.back;
      }) alike made
      (subst (λ (ws : List Occurrence). AreEvents ws left) are remade))
  turns (people_came people given ∷ xs) ys whole left made remade (answered, zs, are, alike, exchange) same =
      let (more, whole_is, made_more) = made in
      let (less, left_is, remade_less) = subst (λ (ws : List Occurrence). AreEvents ws left) are remade in
      subst (λ (es : List Event). HappenAgain (turned_events (served_events es)) (served_events left)) (sym whole_is)
      (subst (λ (es : List Event). HappenAgain (seeded people given ∷ turned_events (served_events more))
      (served_events es)) (sym left_is) (
        (refl, alike),
        turns xs zs more less made_more remade_less exchange
            (sym (ap (λ (es : List Event). certifications (turned_events (served_events es))) whole_is) ∙ same
            ∙ ap (λ (es : List Event). certifications (served_events es)) left_is),
      ))

-- the law
pub bytes_of_lives_hide_answers : BytesOfLivesHideAnswers
bytes_of_lives_hide_answers world last end r a b round e xs ys texts others whole left sane sealed is_a is_b there alone
    exchange same told told_too =
    let kept_sealed : IsSealedRound world r round (timed_requests (served_events whole.events)) = record {
      kept = sealed.kept;
      released = sealed.released;
      sealed = sealed.sealed;
      none = sealed.none;
      before = timed_served (λ asked. asked.0 < end_of round) whole.events sealed.before;
    } in
    let events = histories_hide_answers world last end r a b round e (served_events whole.events)
    (served_events left.events) sane
    (served_typed whole.events whole.typed) (served_life whole.events world last whole.life)
    (served_life left.events world end left.life)
    kept_sealed is_a is_b there alone
    (turns r a b xs ys whole.events left.events whole.made left.made exchange same) in (
      bytes_in last e xs whole.events texts whole.made told,
      subst (λ (gs : List Reply). AreBytesIn (is_told_request last e) ys gs others) (ap (map reply_to) (sym events))
          (bytes_in last e ys left.events others left.made told_too),
    )
