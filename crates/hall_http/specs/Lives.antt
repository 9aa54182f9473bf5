-- What bytes tell over a life of the hall: requests, some of them answered 503, and lists of people that come by no
-- request.
use Rattle.std.specs.Prelude.{◌≡◌, ◌⊎◌, ◌↔◌, ℕ, Bool, true, false, List, [], ◌∷◌, Some, map, All, IsTrue}
use Rattle.std.specs.Prelude.{if◌then◌else◌}
use Rattle.std.specs.List.{filter}
use Rattle.std.specs.FinMap.{get}
use Rattle.hall_policy.specs.World.{World}
use Rattle.hall_policy.specs.OwnAlike.{is_entrant_alone}
use Rattle.hall_policy.specs.Ranges.{IsAnswer}
use Rattle.hall_policy.specs.declared.record.Person.{Person}
use Rattle.hall_policy.specs.declared.record.Round.{Round}
use Rattle.hall_policy.specs.declared.request.Request.{Request}
use Rattle.hall_store.specs.Caller.{caller_of}
use Rattle.hall_desk.specs.Sane.{Sane}
use Rattle.hall_desk.specs.History.{Event, requested, seeded, History, IsTyped}
use Rattle.hall_desk.specs.Without.{is_certify}
use Rattle.hall_desk.specs.Lives.{reply_to, is_e_or_none, is_told, without_others, IsRefusedAlike, PublishesApart}
use Rattle.hall_desk.specs.Lives.{timed_requests, exchanged_event}
use Rattle.hall_desk.specs.Exchanged.{swapped, IsSealedRound}
use Rattle.hall_desk.specs.declared.reply.Reply.{Reply}
use Rattle.hall_desk.specs.declared.reply.Reply.TheVariants as reply
use Rattle.hall_http.specs.Request.{AsksRequest}
use Rattle.hall_http.specs.Reply.{BytesOf}
use Rattle.hall_http.specs.Answered.{IsRefused}
use Rattle.hall_http.specs.Connection.{Exchange}
use Rattle.hall_http.specs.Serving.{IsNoRequestMade, IsRequestMade, IsRunOver}
use Rattle.hall_http.specs.Told.{AsksFor, AsksForOther, ComesAgain, is_others, ComesExchanged}

-- what happens in a hall's life: bytes come and are answered, or a list of people comes by no request
pub data Occurrence : Type 0 where
  bytes_came : Exchange → Occurrence
  people_came : List Person → Reply → Occurrence

-- the events among these: the bytes that are made into a request of the hall, and the lists of people
abbrev pub AreEvents : List Occurrence → List Event → Type 0
AreEvents [] events = events ≡ []
AreEvents (bytes_came x ∷ rest) events =
    (IsNoRequestMade x × AreEvents rest events)
    ⊎ ((t : ℕ) × (request : Request) × (given : Reply) × (later : List Event)
    × (events ≡ requested t request given ∷ later) × IsRequestMade x (t, request) given × AreEvents rest later)
AreEvents (people_came people given ∷ rest) events =
    (later : List Event) × (events ≡ seeded people given ∷ later) × AreEvents rest later

-- these are a life of the hall, from a world to a last one
pub record IsLifeOver (old : World) (happened : List Occurrence) (new : World) : Type 0 where
  pub events : List Event
  pub typed : All IsTyped events
  pub life : History old events new
  pub made : AreEvents happened events

-- each run of the hall over bytes is a life of it
abbrev pub RunsOverAreLives : Type 0
RunsOverAreLives =
    (old new : World) (xs : List Exchange) → IsRunOver old xs new → IsLifeOver old (map bytes_came xs) new

-- e is told the reply to the request: its key is e's, or nobody's in the world at the end, or it has none
abbrev pub is_told_request : World → Person → Request → Bool
is_told_request last e request = is_e_or_none e (caller_of last request.key)

-- the texts are the replies to the requests that pass the test and to the bytes that are no request, in their order
abbrev pub AreToldIn : (Request → Bool) → List Occurrence → List (List ℕ) → Type 0
AreToldIn test [] texts = texts ≡ []
AreToldIn test (bytes_came x ∷ rest) texts =
    ((AsksFor test x ⊎ ¬ (AsksRequest x.request)) × (more : List (List ℕ)) × (texts ≡ x.reply ∷ more)
    × AreToldIn test rest more)
    ⊎ (AsksForOther test x × AreToldIn test rest texts)
AreToldIn test (people_came people given ∷ rest) texts = AreToldIn test rest texts

-- both replies are 503, or none is
abbrev pub IsServedAlike : Exchange → Exchange → Type 0
IsServedAlike x y = BytesOf reply.Unavailable x.reply ↔ BytesOf reply.Unavailable y.reply

-- the reply isn't 503
abbrev pub is_served_reply : Reply → Bool
is_served_reply reply.Unavailable = false
is_served_reply _ = true

-- the event is no request that was answered 503
abbrev pub is_served_event : Event → Bool
is_served_event (requested t request given) = is_served_reply given
is_served_event (seeded people given) = true

-- the events without the requests that were answered 503
abbrev pub served_events : List Event → List Event
served_events events = filter is_served_event events

-- the replies to the requests to certify
abbrev pub certifications : List Event → List Reply
certifications [] = []
certifications (requested t request given ∷ rest) =
    if is_certify request.action then given ∷ certifications rest else certifications rest
certifications (seeded people given ∷ rest) = certifications rest

-- ---- others
-- of the first list all but the requests of others come again, in their order, and what comes again gets 503 in both or
-- in none
abbrev pub AreWithoutIn : World → Person → List Occurrence → List Occurrence → Type 0
AreWithoutIn last e [] ys = ys ≡ []
AreWithoutIn last e (bytes_came x ∷ xs) ys =
    (AsksFor (is_others last e) x × AreWithoutIn last e xs ys)
    ⊎ (¬ (AsksFor (is_others last e) x) × (y : Exchange) × (rest : List Occurrence) × (ys ≡ bytes_came y ∷ rest)
    × ComesAgain x y × IsServedAlike x y × AreWithoutIn last e xs rest)
AreWithoutIn last e (people_came people given ∷ xs) ys =
    (answered : Reply) × (rest : List Occurrence) × (ys ≡ people_came people answered ∷ rest)
    × IsRefusedAlike given answered × AreWithoutIn last e xs rest

-- In two lives from a sane world, of which the second has not the requests of others who hold the role entrant alone,
-- e, who holds it alone too, is told the same bytes: under e's key, without a key or under nobody's, and by the replies
-- to bytes that are no request; where what stands in both gets 503 in both or in none, each request to certify that is
-- served is answered alike, and in neither a round is published to which the others hand in.
abbrev pub BytesOfLivesHideOthers : Type 0
BytesOfLivesHideOthers =
    (world last end : World) (e : Person) (xs ys : List Occurrence) (texts others : List (List ℕ)) →
    (whole : IsLifeOver world xs last) (left : IsLifeOver world ys end) →
    Sane world → get last.people e.name ≡ Some e → IsTrue (is_entrant_alone e) → AreWithoutIn last e xs ys →
    PublishesApart last e whole.events whole.events → PublishesApart last e whole.events left.events →
    certifications (without_others last e (served_events whole.events)) ≡ certifications (served_events left.events) →
    AreToldIn (is_told_request last e) xs texts → AreToldIn (is_told_request last e) ys others → texts ≡ others

-- ---- answers to a sealed round
-- each of the first list comes exchanged in the second, in their order, and gets 503 in both or in none
abbrev pub AreExchangedIn : List ℕ → List ℕ → List ℕ → List Occurrence → List Occurrence → Type 0
AreExchangedIn r a b [] ys = ys ≡ []
AreExchangedIn r a b (bytes_came x ∷ xs) ys =
    (y : Exchange) × (rest : List Occurrence) × (ys ≡ bytes_came y ∷ rest) × ComesExchanged r a b x y
    × IsServedAlike x y × AreExchangedIn r a b xs rest
AreExchangedIn r a b (people_came people given ∷ xs) ys =
    (answered : Reply) × (rest : List Occurrence) × (ys ≡ people_came people answered ∷ rest)
    × IsRefusedAlike given answered × AreExchangedIn r a b xs rest

-- the texts are, in their order, the bytes of these replies, one to each request that passes the test, and among them
-- 503, and the refusals of the bytes that are no request
abbrev pub AreBytesIn : (Request → Bool) → List Occurrence → List Reply → List (List ℕ) → Type 0
AreBytesIn test [] replies texts = (replies ≡ []) × (texts ≡ [])
AreBytesIn test (bytes_came x ∷ xs) replies texts =
    (AsksFor test x × (given : Reply) × (later : List Reply) × (rest : List (List ℕ)) × (replies ≡ given ∷ later)
    × (texts ≡ x.reply ∷ rest) × BytesOf given x.reply × AreBytesIn test xs later rest)
    ⊎ ((IsRefused x.request x.reply ⊎ BytesOf reply.Unavailable x.reply) × (rest : List (List ℕ))
    × (texts ≡ x.reply ∷ rest) × AreBytesIn test xs replies rest)
    ⊎ (AsksForOther test x × AreBytesIn test xs replies texts)
AreBytesIn test (people_came people given ∷ xs) replies texts = AreBytesIn test xs replies texts

-- the replies that e is told, but for 503
abbrev pub told_replies : World → Person → List Event → List Reply
told_replies last e events = map reply_to (filter (is_told last e) events)

-- Until a sealed round's end, in two lives from a sane world, of which the second has a for b and b for a wherever one
-- of them is handed in to the round, e is told the bytes of the same replies, with a for b and b for a where answers to
-- the round are listed; where what stands in both gets 503 in both or in none, and each request to certify that is
-- served is answered alike.
abbrev pub BytesOfLivesHideAnswers : Type 0
BytesOfLivesHideAnswers =
    (world last end : World) (r a b : List ℕ) (round : Round) (e : Person) (xs ys : List Occurrence)
    (texts others : List (List ℕ)) → (whole : IsLifeOver world xs last) (left : IsLifeOver world ys end) →
    Sane world → IsSealedRound world r round (timed_requests whole.events) → IsAnswer a → IsAnswer b →
    get last.people e.name ≡ Some e → IsTrue (is_entrant_alone e) → AreExchangedIn r a b xs ys →
    let events : List Event = served_events whole.events in
    let turned : List Event = map (exchanged_event (swapped r a b)) events in
    certifications turned ≡ certifications (served_events left.events) →
    AreToldIn (is_told_request last e) xs texts → AreToldIn (is_told_request last e) ys others →
    AreBytesIn (is_told_request last e) xs (told_replies last e events) texts
    × AreBytesIn (is_told_request last e) ys (told_replies last e turned) others
