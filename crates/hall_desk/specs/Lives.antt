-- What an entrant can't learn over a life of the hall: requests, some of them answered 503, and lists of people.
use Rattle.std.specs.Prelude.{◌≡◌, ◌↔◌, ◌&&◌, ℕ, Bool, true, false, not, List, [], ◌∷◌, Option, Some, None, map, All}
use Rattle.std.specs.Prelude.{Contains, IsTrue}
use Rattle.std.specs.List.{filter}
use Rattle.std.specs.FinMap.{get}
use Rattle.hall_policy.specs.World.{World, same_text}
use Rattle.hall_policy.specs.Ranges.{IsAnswer}
use Rattle.hall_policy.specs.OwnAlike.{is_entrant_alone}
use Rattle.hall_policy.specs.declared.record.Person.{Person}
use Rattle.hall_policy.specs.declared.record.Round.{Round}
use Rattle.hall_policy.specs.declared.request.Action.{Action}
use Rattle.hall_policy.specs.declared.request.Action.TheVariants.{Submit, Protest}
use Rattle.hall_policy.specs.declared.request.Request.{Request}
use Rattle.hall_store.specs.Caller.{caller_of}
use Rattle.hall_desk.specs.Sane.{Sane}
use Rattle.hall_desk.specs.History.{Event, requested, seeded, History, IsTyped}
use Rattle.hall_desk.specs.Without.{is_other_person, is_certify}
use Rattle.hall_desk.specs.Exchanged.{swapped, exchanged_request, exchanged_reply, IsSealedRound}
use Rattle.hall_desk.specs.declared.reply.Reply.{Reply}
use Rattle.hall_desk.specs.declared.reply.Reply.TheVariants as reply

-- the reply to an event
abbrev pub reply_to : Event → Reply
reply_to (requested t request given) = given
reply_to (seeded people given) = given

-- the person is e, or there is none
abbrev pub is_e_or_none : Person → Option Person → Bool
is_e_or_none e None = true
is_e_or_none e (Some person) = same_text person.name e.name

-- e is told the reply: the request's key is e's, or nobody's in the world at the end, or the request has none
abbrev pub is_told : World → Person → Event → Bool
is_told last e (requested t request given) = is_e_or_none e (caller_of last request.key)
is_told last e (seeded people given) = false

-- the event is a request whose key belongs, in the world at the end, to another person than e who holds the role
-- entrant alone
abbrev pub is_others_event : World → Person → Event → Bool
is_others_event last e (requested t request given) = is_other_person e (caller_of last request.key)
is_others_event last e (seeded people given) = false

-- the events without the others' requests
abbrev pub without_others : World → Person → List Event → List Event
without_others last e events = filter (λ event. not (is_others_event last e event)) events

-- ---- two lives

-- both replies are 503, or none is
abbrev pub IsRefusedAlike : Reply → Reply → Type 0
IsRefusedAlike given answered = (given ≡ reply.Unavailable) ↔ (answered ≡ reply.Unavailable)

-- the second event is the same request at the same moment, or the same list of people; both got 503 or none did, and a
-- request to certify is answered alike, since it doesn't fix which true answer a search gives
abbrev pub HappensAgain : Event → Event → Type 0
HappensAgain (requested t request given) (requested u again answered) =
    (u ≡ t) × (again ≡ request) × IsRefusedAlike given answered
    × (is_certify request.action ≡ true → given ≡ answered)
HappensAgain (seeded people given) (seeded list answered) = (list ≡ people) × IsRefusedAlike given answered
HappensAgain (requested t request given) (seeded list answered) = ⊥
HappensAgain (seeded people given) (requested u again answered) = ⊥

-- the second list has each event of the first again, in their order, and no other
abbrev pub HappenAgain : List Event → List Event → Type 0
HappenAgain [] [] = Unit {0}
HappenAgain (event ∷ rest) (again ∷ others) = HappensAgain event again × HappenAgain rest others
HappenAgain [] (again ∷ others) = ⊥
HappenAgain (event ∷ rest) [] = ⊥

-- ---- others

-- the round to which the action hands in an answer or a protest
abbrev pub hands_in : Action → Option (List ℕ)
hands_in (Submit round number token answer) = Some round
hands_in (Protest round token number text) = Some round
hands_in _ = None

-- whether the round is that of the id
abbrev pub is_round : List ℕ → Option (List ℕ) → Bool
is_round id None = false
is_round id (Some round) = same_text round id

-- the event is a request of the others that hands in to the round
abbrev pub is_others_in : World → Person → List ℕ → Event → Bool
is_others_in last e id (requested t request given) =
    is_other_person e (caller_of last request.key) && is_round id (hands_in request.action)
is_others_in last e id (seeded people given) = false

-- among the events the others hand in nothing to a round whose publication is granted in the told ones
abbrev pub PublishesApart : World → Person → List Event → List Event → Type 0
PublishesApart last e events told =
    (id : List ℕ) (published asked : Event) → Contains told published → reply_to published ≡ reply.Publish id →
    Contains events asked → is_others_in last e id asked ≡ false

-- in two lives from a sane world, of which the second has not the requests of others who hold the role entrant alone,
-- e, who holds it alone too, is told the same, where what stands in both is answered 503 in both or in none, and a
-- request to certify is answered alike, and where in neither a round is published to which the others hand in, since an
-- open protest of theirs denies it
abbrev pub HistoriesHideOthers : Type 0
HistoriesHideOthers =
    (world last end : World) (e : Person) (events others : List Event) → Sane world → All IsTyped events →
    History world events last → History world others end →
    get last.people e.name ≡ Some e → IsTrue (is_entrant_alone e) →
    HappenAgain (without_others last e events) others →
    PublishesApart last e events events → PublishesApart last e events others →
    filter (is_told last e) events ≡ filter (is_told last e) others

-- ---- answers to a sealed round

-- the requests among the events, with their moments
abbrev pub timed_requests : List Event → List (ℕ × Request)
timed_requests [] = []
timed_requests (requested t request given ∷ rest) = (t, request) ∷ timed_requests rest
timed_requests (seeded people given ∷ rest) = timed_requests rest

-- the event with the text of the answer that it hands in, and the texts that its reply lists, read by `ex`
abbrev pub exchanged_event : (List ℕ → List ℕ → List ℕ) → Event → Event
exchanged_event ex (requested t request given) =
    requested t (exchanged_request ex request) (exchanged_reply ex request.action given)
exchanged_event ex (seeded people given) = seeded people given

-- until a sealed round's end, in two lives from a sane world, of which the second has a for b and b for a wherever
-- one of them is handed in to the round, e is told the same, with a for b and b for a where answers to the round are
-- listed, where what stands in both is answered 503 in both or in none, and a request to certify is answered alike
abbrev pub HistoriesHideAnswers : Type 0
HistoriesHideAnswers =
    (world last end : World) (r a b : List ℕ) (round : Round) (e : Person) (events others : List Event) → Sane world →
    All IsTyped events → History world events last → History world others end →
    IsSealedRound world r round (timed_requests events) → IsAnswer a → IsAnswer b →
    get last.people e.name ≡ Some e → IsTrue (is_entrant_alone e) →
    let turned : List Event = map (exchanged_event (swapped r a b)) events in
    HappenAgain turned others → filter (is_told last e) turned ≡ filter (is_told last e) others
