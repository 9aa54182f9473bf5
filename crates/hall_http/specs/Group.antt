-- Requests that are held and are to be answered together.
use Rattle.std.specs.Prelude.{◌≡◌, ◌≢◌, ◌++◌, ◌∷◌, [], ℕ, Bool, true, false, List, Option, Some, None, All, map, take}
use Rattle.std.proofs.Common.{get_or}
use Rattle.hall_policy.specs.declared.record.AnswerRow.{AnswerRow}
use Rattle.hall_http.specs.Connection.{Exchange}
use Rattle.hall_http.specs.Joining.{planned}
use Rattle.hall_http.specs.Steps.{StandsInFront}
use Rattle.hall_http.specs.Turns.{Service}
use Rattle.hall_http.specs.declared.client.Client.{Client}
use Rattle.hall_http.specs.declared.clients.Clients.{Clients}
use Rattle.hall_http.specs.declared.clients.HeldRequest.{HeldRequest}
use Rattle.hall_http.specs.declared.connection.Joined.{Joined}
use Rattle.hall_http.specs.declared.connection.State.TheVariants as state
use Rattle.hall_http.specs.declared.group.Group.{Group}
use Rattle.hall_http.specs.declared.group.Member.{Member}

-- a service that only notes what is answered, one after another, and keeps nothing waiting
abbrev pub recording : Service (List Exchange)
recording = record {
  answers = λ told moment request reply then.
      then ≡ told ++ record { request = request; moment = moment; reply = reply } ∷ [];
  joins = λ told xs then. then ≡ told ++ xs;
  rests = λ told then. then ≡ told;
  may_wait = λ told request. ⊥;
}

-- the bytes that wait of whoever is at a place
abbrev pub waiting_of : {P : Type 0} → Option (Client P) → List ℕ
waiting_of None = []
waiting_of (Some k) = k.connection.inbox

-- whoever is at the place was to be looked at, and this whole request stands at the front of what waits
abbrev pub Awaits : {P : Type 0} → Option (Client P) → Joined → Type 0
Awaits None joined = ⊥
Awaits (Some k) joined = (k.connection.state ≡ state.Looking) × StandsInFront k.connection joined

-- its request at this moment, and its answer
abbrev pub answered_at : {P : Type 0} → Option (Client P) → Option ℕ → Joined → Exchange
answered_at place moment joined = planned moment (take joined.size (waiting_of place)) joined.answer

-- the request of whoever is at the place joined those that are to be answered together; or none did
abbrev pub JoinsAt : {H P : Type 0} → (List Exchange → List AnswerRow → H → Type 0) → List Exchange
    → Option (Client P) → Option ℕ → Option Joined → List AnswerRow → H → Type 0
JoinsAt have_joined xs place moment (Some joined) rows h =
    Awaits place joined × have_joined (xs ++ answered_at place moment joined ∷ []) rows h
JoinsAt have_joined xs place moment None rows h = have_joined xs rows h

-- the requests of some members, as they were held
abbrev pub requests_of : List Member → List HeldRequest
requests_of members = map (λ member. member.request) members

-- who is at the place of a member
abbrev pub place_of : {P : Type 0} → Clients P → Member → Option (Client P)
place_of s member = get_or s.places.items member.request.place None

-- what the members are to be answered
abbrev pub exchanges_at : {P : Type 0} → Clients P → List Member → List Exchange
exchanges_at s members = map (λ member. answered_at (place_of s member) member.request.moment member.joined) members

-- each member waits at its place, at which none of those after it is
abbrev pub AreWaiting : {P : Type 0} → Clients P → List Member → Type 0
AreWaiting s [] = Unit {0}
AreWaiting s (member ∷ members) =
    Awaits (place_of s member) member.joined × All (λ other. other.request.place ≢ member.request.place) members
    × AreWaiting s members

-- these wait at their places, and have joined with the answers to puzzles that are to be stored for them
pub record IsGathered {H P : Type 0} (have_joined : List Exchange → List AnswerRow → H → Type 0) (s : Clients P)
    (group : Group) (h : H) : Type 0 where
  pub waiting : AreWaiting s group.members.items
  pub joined : have_joined (exchanges_at s group.members.items) group.joint h

-- one more was taken off the front of those that are held; or none was
abbrev pub Takes : Bool → List Member → List HeldRequest → List Member → List HeldRequest → Type 0
Takes true old held new left =
    (member : Member) × (new ≡ old ++ member ∷ []) × (held ≡ member.request ∷ left)
Takes false old held new left = (new ≡ old) × (left ≡ held)
