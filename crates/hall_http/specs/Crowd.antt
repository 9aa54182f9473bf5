-- All connections that came, and what each was told.
use Rattle.std.specs.Prelude.{◌≡◌, ◌≢◌, ◌<◌, ◌≤◌, ◌+◌, ◌⊎◌, ⊤, ℕ, List, [], ◌∷◌, ◌++◌, All, Option, Some, None}
use Rattle.std.specs.Prelude.{◌==◌, false, not, length, map}
use Rattle.std.specs.List.{filter}
use Rattle.std.proofs.Common.{get_or}
use Rattle.hall_http.specs.Limits.{most_connections}
use Rattle.hall_http.specs.Held.{HoldsNoMore, IsShare, is_held}
use Rattle.hall_http.specs.Answered.{IsUnavailable}
use Rattle.hall_http.specs.Peer.{Traffic, IsLaterOn, IsOver, IsUntouched}
use Rattle.hall_http.specs.Progress.{TakesTurnAt}
use Rattle.hall_http.specs.Request.{ReachesStore}
use Rattle.hall_http.specs.Steps.{HasRequest, StandsRightly}
use Rattle.hall_http.specs.Turns.{GroupedSession, Turn, Service, exchanges_of, of, IsConnectionTold, IsClient}
use Rattle.hall_http.specs.Turns.{IsNextRequest}
use Rattle.hall_http.specs.Coming.{Heard, Nexts, Said, AreCounted, AreDone, since}
use Rattle.hall_http.specs.declared.server.Next.TheVariants as next
use Rattle.hall_http.specs.declared.server.Next.{Next}
use Rattle.hall_http.specs.declared.server.ServeAllEnd.{ServeAllEnd}
use Rattle.hall_http.specs.declared.server.ServeAllEnd.TheVariants as end
use Rattle.hall_store.specs.Store.{Content, IsSettled, Leads}
use Rattle.hall_http.specs.Connection.{Exchange, AreReadings, of_groups}
use Rattle.hall_http.specs.Groups.{AreAnsweredInGroups, AreAnsweredWhileOpen, LeavesRunByGroups}
use Rattle.hall_http.specs.Serving.{RunsOver, WaitsForWork}
use Rattle.hall_http.specs.declared.client.Client.{Client}
use Rattle.hall_http.specs.declared.client.Step.{Step}
use Rattle.hall_http.specs.declared.client.Step.TheVariants as step
use Rattle.hall_http.specs.declared.clients.Away.{Away}
use Rattle.hall_http.specs.declared.clients.Away.TheVariants as away
use Rattle.hall_http.specs.declared.clients.Clients.{Clients}
use Rattle.hall_http.specs.declared.clients.Departure.{Departure}
use Rattle.hall_http.specs.declared.clients.Departure.TheVariants as departure
use Rattle.hall_http.specs.declared.clients.HeldRequest.{HeldRequest}
use Rattle.hall_http.specs.declared.connection.State.TheVariants as state
use Rattle.hall_http.specs.declared.peer.Closed.{Closed}

-- the connection at a place
abbrev pub IsAt : {P : Type 0} → Clients P → ℕ → Client P → Type 0
IsAt s place k = get_or s.places.items place None ≡ Some k

-- none is at the place
abbrev pub IsFree : {P : Type 0} → Clients P → ℕ → Type 0
IsFree s place = get_or s.places.items place None ≡ None

-- all have gone: none is at any place
abbrev pub AreGone : {P : Type 0} → Clients P → Type 0
AreGone s = (place : ℕ) → IsFree s place

-- a connection that has gone, how it went, and the place that it was handed out for
abbrev pub Past : Type 0 → Type 0
Past P = Closed P × (Departure × ℕ)

-- all that came of it and went to it until it was closed
abbrev pub traffic_past : {P : Type 0} → (P → Traffic) → Past P → Traffic
traffic_past traffic one = traffic one.0.peer

-- its number among all that the sockets handed out
abbrev pub number_past : {P : Type 0} → (P → Traffic) → Past P → ℕ
number_past traffic one = (traffic_past traffic one).number

-- one of the connections that have gone has this number
abbrev pub HasGone : {P : Type 0} → (P → Traffic) → ℕ → List (Past P) → Type 0
HasGone {P} traffic number gone =
    (front : List (Past P)) × (one : Past P) × (rest : List (Past P)) × (gone ≡ front ++ one ∷ rest)
    × (number_past traffic one ≡ number)

-- the number is one of those that were handed out, from the first on and below the last
abbrev pub IsHandedOut : ℕ → ℕ → ℕ → Type 0
IsHandedOut few many number = (few ≤ number) × (number < many)

-- no two of them have the same number
abbrev pub AreApart : {P : Type 0} → (P → Traffic) → List (Past P) → Type 0
AreApart traffic [] = ⊤
AreApart traffic (one ∷ rest) =
    All (λ other. number_past traffic other ≢ number_past traffic one) rest × AreApart traffic rest

-- How a connection may go, by what came of it and went to it: one that was turned away was left untouched; and one is
-- over where no more goes to it, or where it was told that no more is sent and no more comes of it.
abbrev pub MayGo : Departure → Traffic → Type 0
MayGo (departure.TurnedAway why) t = IsUntouched t
MayGo departure.Over t = IsOver t
MayGo departure.LetGo t = Unit {0}
MayGo departure.AtEnd t = Unit {0}

-- What came of it spells its requests among these, what it was sent is a first part of their replies, and it may go as
-- it went.
abbrev pub IsPast : {P : Type 0} → (P → Traffic) → List Turn → Past P → Type 0
IsPast traffic turns one =
    IsConnectionTold (of (number_past traffic one) turns) (traffic_past traffic one)
    × MayGo one.1.0 (traffic_past traffic one)

-- each of the connections with these numbers is here or has gone, and none twice; and each request that was answered
-- is of one of them
pub record AreAccountedFor {P : Type 0} (traffic : P → Traffic) (few many : ℕ) (turns : List Turn) (s : Clients P) :
    Type 0 where
  pub order : few ≤ many
  pub known : All (λ turn. IsHandedOut few many turn.0) turns
  pub counted : (place : ℕ) (k : Client P) → IsAt s place k → IsHandedOut few many (traffic k.peer).number
  pub apart : (place other : ℕ) (k l : Client P) → IsAt s place k → IsAt s other l
      → (traffic k.peer).number ≡ (traffic l.peer).number → place ≡ other
  pub left : (place : ℕ) (k : Client P) → IsAt s place k
      → All (λ one. number_past traffic one ≢ (traffic k.peer).number) s.gone.items
  pub past : All (λ one. IsHandedOut few many (number_past traffic one)) s.gone.items
  pub once : AreApart traffic s.gone.items
  pub found : (number : ℕ) → IsHandedOut few many number
      → ((place : ℕ) × (k : Client P) × IsAt s place k × ((traffic k.peer).number ≡ number))
      ⊎ HasGone traffic number s.gone.items

-- of those that are here each stands as its history says, and those that have gone were told so
pub record AreKept {P : Type 0} (traffic : P → Traffic) (few many : ℕ) (turns : List Turn) (s : Clients P) :
    Type 0 where
  pub numbered : AreAccountedFor traffic few many turns s
  pub here : (place : ℕ) (k : Client P) → IsAt s place k → IsClient traffic (of (traffic k.peer).number turns) k
  pub gone : All (IsPast traffic turns) s.gone.items

-- some numbers, and some requests that were answered, are those of these connections
abbrev pub AreSomeKept : {P : Type 0} → (P → Traffic) → Clients P → Type 0
AreSomeKept traffic s = (few many : ℕ) × (turns : List Turn) × AreKept traffic few many turns s

-- a connection of this number is at the place
abbrev pub HasAt : {P : Type 0} → (P → Traffic) → Clients P → ℕ → ℕ → Type 0
HasAt {P} traffic s place number = (k : Client P) × IsAt s place k × ((traffic k.peer).number ≡ number)

-- one that was at the place is this one, with this traffic later on
abbrev pub WasAt : {P : Type 0} → (P → Traffic) → Clients P → ℕ → Traffic → Type 0
WasAt {P} traffic s place t = (k : Client P) × IsAt s place k × IsLaterOn (traffic k.peer) t

-- whoever is at a place was there before
abbrev pub AreStill : {P : Type 0} → (P → Traffic) → Clients P → Clients P → Type 0
AreStill {P} traffic s u = (place : ℕ) (l : Client P) → IsAt u place l → WasAt traffic s place (traffic l.peer)

-- those that have gone are the same, or the one at the place went so
abbrev pub MayLose : {P : Type 0} → (P → Traffic) → Departure → ℕ → Clients P → Clients P → Type 0
MayLose {P} traffic went place s u =
    (u.gone.items ≡ s.gone.items)
    ⊎ ((closed : Closed P) × WasAt traffic s place (traffic closed.peer)
    × (u.gone.items ≡ s.gone.items ++ (closed, (went, place)) ∷ []))

-- whatever they were answered, they were answered no more, and each that is here is at its place
abbrev pub AnswersNoMore : {P : Type 0} → (P → Traffic) → Clients P → Clients P → Type 0
AnswersNoMore traffic s u =
    AreStill traffic s u
    × ((few many : ℕ) (turns : List Turn) → AreKept traffic few many turns s → AreKept traffic few many turns u)

-- whoever is at a place was there before, or is the newcomer, at its place
abbrev pub ComesTo : {P : Type 0} → (P → Traffic) → ℕ → P → Clients P → Clients P → Type 0
ComesTo {P} traffic place peer s u =
    (other : ℕ) (l : Client P) → IsAt u other l
    → WasAt traffic s other (traffic l.peer)
    ⊎ ((other ≡ place) × ((traffic l.peer).number ≡ (traffic peer).number))

-- the same, and one came in for the place, of the number after the others
abbrev pub Admits : {P : Type 0} → (P → Traffic) → ℕ → P → Clients P → Clients P → Type 0
Admits traffic place peer s u =
    ComesTo traffic place peer s u
    × ((few many : ℕ) (turns : List Turn) → (traffic peer).number ≡ many → AreKept traffic few many turns s
    → AreKept traffic few (many + 1) turns u)

-- a newcomer for the place may be turned away so: as it has none only where a connection is at it, or where it isn't
-- one of those that there are
abbrev pub MayTurnAway : {P : Type 0} → Clients P → ℕ → Away → Type 0
MayTurnAway {P} s place away.NoPlace = (length s.places.items ≤ place) ⊎ ((k : Client P) × IsAt s place k)
MayTurnAway s place (away.NoMemory refusal) = Unit {0}

-- a newcomer got the place, which was free; or it was turned away, as it may be
abbrev pub Receives : {P : Type 0} → ℕ → P → Clients P → Clients P → Type 0
Receives {P} place peer s u =
    (IsFree s place × (u.gone.items ≡ s.gone.items))
    ⊎ ((closed : Closed P) × (why : Away) × (closed.peer ≡ peer) × MayTurnAway s place why
    × (u.gone.items ≡ s.gone.items ++ (closed, (departure.TurnedAway why, place)) ∷ []))

-- requests were answered by a responder, in groups, one after another, and this is true of them
pub record AreHandled {H : Type 0} (service : Service H) (Holds : List Turn → Type 0) (before after : H) : Type 0 where
  pub turns : List Turn
  pub session : GroupedSession service before (exchanges_of turns) after
  pub holds : Holds turns

-- After the first of all requests, these, were answered so, and before the rest of them were, the request may be kept
-- waiting.
abbrev pub MayWaitBetween : {H : Type 0} → (H → List Exchange → H → Type 0) → (H → List ℕ → Type 0) → H → H → List Turn
    → List Turn → List ℕ → Type 0
MayWaitBetween {H} Answers may_wait before after all turns request =
    (h : H) × (rest : List Turn) × (all ≡ turns ++ rest) × Answers before (exchanges_of turns) h
    × Answers h (exchanges_of rest) after × may_wait h request

-- so it is by a responder
abbrev pub MayWaitAfter : {H : Type 0} → Service H → H → H → List Turn → List Turn → List ℕ → Type 0
MayWaitAfter service = MayWaitBetween (GroupedSession service) service.may_wait

-- so it is over a store, for a search
abbrev pub WaitsForWorkAfter : {H : Type 0} → (H → Content) → H → H → List Turn → List Turn → List ℕ → Type 0
WaitsForWorkAfter content = MayWaitBetween (AreAnsweredInGroups content) (WaitsForWork content)

-- After some requests those that are held were answered too, in their order, each at its moment, and so each was of the
-- connection that is there. One is passed over, and isn't answered, only where it may be after those that were answered
-- until then.
abbrev pub AreAnsweredOf : {X : Type 0} → (X → ℕ → Option ℕ → Type 0) → (List Turn → X → Type 0) → List Turn → List X
    → List Turn → Type 0
AreAnsweredOf There MayPass turns [] more = more ≡ []
AreAnsweredOf There MayPass turns (one ∷ held) more =
    (MayPass turns one × AreAnsweredOf There MayPass turns held more)
    ⊎ ((number : ℕ) × (x : Exchange) × (later : List Turn) × There one number x.moment × (more ≡ (number, x) ∷ later)
    × AreAnsweredOf There MayPass (turns ++ (number, x) ∷ []) held later)

-- a request that is held for the moment is of the connection of this number, which is at its place
abbrev pub IsHeldAt : {P : Type 0} → (P → Traffic) → Clients P → HeldRequest → ℕ → Option ℕ → Type 0
IsHeldAt traffic s one number moment = HasAt traffic s one.place number × (moment ≡ one.moment)

-- after these requests and some more, whoever is at the place of one that is held has a whole request next, by what
-- came of it, and that may be kept waiting
abbrev pub WaitsAt : {P : Type 0} → (List Turn → List ℕ → Type 0) → (P → Traffic) → Clients P → List Turn → List Turn
    → HeldRequest → Type 0
WaitsAt {P} may_wait traffic s turns some one =
    (k : Client P) × (request : List ℕ) × IsAt s one.place k × IsNextRequest (traffic k.peer) (turns ++ some) request
    × may_wait some request

-- Some requests that are held were answered, one after another. None of them was passed over but one that may be kept
-- waiting, as of that moment.
abbrev pub Serves : {H P : Type 0} → Service H → (P → Traffic) → List HeldRequest → H → Clients P → H → Clients P
    → Type 0
Serves service traffic held before s after u =
    AreStill traffic s u
    × ((few many : ℕ) (turns : List Turn) → AreKept traffic few many turns s
    → AreHandled service
    (λ more. AreAnsweredOf (IsHeldAt traffic s) (WaitsAt (MayWaitAfter service before after more) traffic s turns) []
    held more × AreKept traffic few many (turns ++ more) u) before after)

-- nothing changed at the place
abbrev pub IsSameAt : {P : Type 0} → Clients P → Clients P → ℕ → Type 0
IsSameAt s u place = get_or u.places.items place None ≡ get_or s.places.items place None

-- nothing changed at other places
abbrev pub AreOthersSame : {P : Type 0} → Clients P → ℕ → Clients P → Type 0
AreOthersSame s place u = (other : ℕ) → other ≢ place → IsSameAt s u other

-- whoever was at a place is there still, as before
abbrev pub AreAllThere : {P : Type 0} → Clients P → Clients P → Type 0
AreAllThere {P} s u = (place : ℕ) (k : Client P) → IsAt s place k → IsAt u place k

-- one is at the place, to be looked at, and a whole request stands at the front of what waits
abbrev pub StandsWhole : {P : Type 0} → Clients P → ℕ → Type 0
StandsWhole {P} s place =
    (k : Client P) × IsAt s place k × (k.connection.state ≡ state.Looking) × HasRequest k.connection

-- those that are held are each of another place, at which one stands so
abbrev pub AreReady : {P : Type 0} → Clients P → List HeldRequest → Type 0
AreReady s [] = Unit {0}
AreReady s (one ∷ held) =
    StandsWhole s one.place × All (λ other. other.place ≢ one.place) held × AreReady s held

-- the connection of this number was turned away
abbrev pub WasTurnedAway : {P : Type 0} → (P → Traffic) → List (Past P) → ℕ → Type 0
WasTurnedAway {P} traffic gone number =
    (front : List (Past P)) × (one : Past P) × (rest : List (Past P)) × (gone ≡ front ++ one ∷ rest)
    × (why : Away) × (one.1.0 ≡ departure.TurnedAway why) × (number_past traffic one ≡ number)

-- by this, whoever has the place keeps it: it isn't let go, and no newcomer gets it
abbrev pub KeepsPlace : {P : Type 0} → (P → Traffic) → List (Past P) → ℕ → Next P → Type 0
KeepsPlace traffic gone place (next.Gone other) = other ≢ place
KeepsPlace traffic gone place (next.Newcomer other peer) =
    (other ≢ place) ⊎ WasTurnedAway traffic gone (traffic peer).number
KeepsPlace traffic gone place _ = Unit {0}

-- by one of these steps, before the rest of them, the newcomer of this number was handed out for the place
abbrev pub WasHandedOut : {P : Type 0} → (P → Traffic) → Nexts P → Nexts P → ℕ → ℕ → Type 0
WasHandedOut {P} traffic steps rest place number =
    (front : Nexts P) × (peer : P) × (steps ≡ front ++ next.Newcomer place peer ∷ rest)
    × ((traffic peer).number ≡ number)

-- the newcomer of this number was handed out for the place, and by what was done since it keeps that
abbrev pub IsFor : {P : Type 0} → (P → Traffic) → List (Past P) → Nexts P → ℕ → ℕ → Type 0
IsFor {P} traffic gone steps place number =
    (rest : Nexts P) × WasHandedOut traffic steps rest place number × All (KeepsPlace traffic gone place) rest

-- this was next while the newcomer of this number kept the place
abbrev pub WasNext : {P : Type 0} → (P → Traffic) → List (Past P) → Nexts P → Next P → ℕ → ℕ → Type 0
WasNext {P} traffic gone steps one place number =
    (front rest : Nexts P) × (steps ≡ front ++ one ∷ rest) × IsFor traffic gone front place number

-- when the connection of this number went, the other was still here: it isn't among those that had gone by then
abbrev pub WasStillHere : {P : Type 0} → (P → Traffic) → List (Past P) → ℕ → ℕ → Type 0
WasStillHere {P} traffic gone number other =
    (front : List (Past P)) × (one : Past P) × (rest : List (Past P)) × (gone ≡ front ++ one ∷ rest)
    × (number_past traffic one ≡ number) × All (λ past. number_past traffic past ≢ other) front

-- After these steps the place couldn't be given to the newcomer of this number. It isn't one of those that there are;
-- or another had it, which was handed out for it before, wasn't let go since, and was still here. Or there was no
-- memory.
abbrev pub WasTaken : {P : Type 0} → (P → Traffic) → List (Past P) → Nexts P → ℕ → ℕ → Away → Type 0
WasTaken traffic gone steps place number away.NoPlace =
    (most_connections ≤ place)
    ⊎ ((other : ℕ) × IsFor traffic gone steps place other × WasStillHere traffic gone number other)
WasTaken traffic gone steps place number (away.NoMemory refusal) = Unit {0}

-- By what the sockets said, the connection of this number that was handed out for the place was to go so, or may have,
-- before the end: turned away as it was handed out, where the place was taken; over after a turn of its place; let go
-- where its place was.
abbrev pub WasToGo : {P : Type 0} → (P → Traffic) → List (Past P) → Nexts P → Departure → ℕ → ℕ → Type 0
WasToGo {P} traffic gone steps (departure.TurnedAway why) place number =
    (front rest : Nexts P) × (peer : P) × (steps ≡ front ++ next.Newcomer place peer ∷ rest)
    × ((traffic peer).number ≡ number) × WasTaken traffic gone front place number why
WasToGo traffic gone steps departure.Over place number = WasNext traffic gone steps (next.Turn place) place number
WasToGo traffic gone steps departure.LetGo place number = WasNext traffic gone steps (next.Gone place) place number
WasToGo traffic gone steps departure.AtEnd place number = ⊥

-- so it is of one that has gone
abbrev pub WentSo : {P : Type 0} → (P → Traffic) → List (Past P) → Nexts P → Past P → Type 0
WentSo traffic gone steps one = WasToGo traffic gone steps one.1.0 one.1.1 (number_past traffic one)

-- one has gone at the end, and kept its place until then
abbrev pub WasLast : {P : Type 0} → (P → Traffic) → List (Past P) → Nexts P → Past P → Type 0
WasLast traffic gone steps one =
    (one.1.0 ≡ departure.AtEnd) × IsFor traffic gone steps one.1.1 (number_past traffic one)

-- those that have gone: first these, each by what the sockets said; and then those that were here when no more was said
pub record HaveGone {P : Type 0} (traffic : P → Traffic) (steps : Nexts P) (gone : List (Past P)) : Type 0 where
  pub left : List (Past P)
  pub last : List (Past P)
  pub all : gone ≡ left ++ last
  pub each : All (WentSo traffic gone steps) left
  pub here : All (WasLast traffic gone steps) last

-- each that is here keeps its place, and each that has gone did so by what the sockets said
pub record AreAsSaid {P : Type 0} (traffic : P → Traffic) (steps : Nexts P) (s : Clients P) : Type 0 where
  pub here : (place : ℕ) (k : Client P) → IsAt s place k
      → IsFor traffic s.gone.items steps place (traffic k.peer).number
  pub gone : All (WentSo traffic s.gone.items steps) s.gone.items

-- one went at the end that was at its place until then
abbrev pub WasHere : {P : Type 0} → (P → Traffic) → Clients P → Past P → Type 0
WasHere traffic s one = (one.1.0 ≡ departure.AtEnd) × WasAt traffic s one.1.1 (traffic_past traffic one)

-- some more have gone, which were here until then
abbrev pub AllLeave : {P : Type 0} → (P → Traffic) → Clients P → Clients P → Type 0
AllLeave {P} traffic s u =
    (last : List (Past P)) × (u.gone.items ≡ s.gone.items ++ last) × All (WasHere traffic s) last

-- a request that is held, and the number of its connection
abbrev pub Holding : Type 0
Holding = ℕ × HeldRequest

-- those that are held at other places
abbrev pub without_holding : ℕ → List Holding → List Holding
without_holding place held = filter (λ one. not (one.1.place == place)) held

-- those that are held still once this was said: where a connection is let go, its request isn't
abbrev pub held_after : {P : Type 0} → Next P → List Holding → List Holding
held_after (next.Gone place) held = without_holding place held
held_after _ held = held

-- those that are held still after a turn of the place that ended so: where the connection is over, its request isn't
abbrev pub held_on : ℕ → Step → List Holding → List Holding
held_on place step.Over held = without_holding place held
held_on place _ held = held

-- a request that is held for the moment is of the connection of this number, which is the one of its place
abbrev pub IsHeldFor : (ℕ → ℕ → Type 0) → Holding → ℕ → Option ℕ → Type 0
IsHeldFor IsOf one number moment = (one.0 ≡ number) × IsOf one.1.place number × (moment ≡ one.1.moment)

-- nobody has a turn by this, and nothing is answered
abbrev pub IsNoTurn : {P : Type 0} → Next P → Type 0
IsNoTurn (next.Turn place) = ⊥
IsNoTurn next.Answer = ⊥
IsNoTurn _ = Unit {0}

-- the requests of what is held
abbrev pub requests_in : List Holding → List HeldRequest
requests_in held = map (λ one. one.1) held

-- While these things were done, one after another, this was heard of the turns, these requests were answered, these are
-- held, and these moments were read. A moment is read only for a turn by which a request is to be answered, and it is
-- heard with that turn. The request, of a place of which none is held, is held for it then, behind all others: of the
-- connection that is the one of the place by what was done before. So it is of each such turn, unless one of the place
-- is held already, or as many as may be; and with any other no moment is heard. Requests are answered only where the
-- first of those that are held are taken off, one at least where any are held, and at most 67: in their order, each at
-- its moment, and of its connection, which is the one of its place still. One that is taken off is passed over, and
-- isn't answered, only where the next request of its connection may wait after those that were answered until then. And
-- what is held at a place isn't held any more once its connection is let go, or is over after a turn. Of which number
-- the connection of a place is by some steps (`IsOf`), and of which the next request may wait after some requests
-- (`MayWait`), is given.
pub data AreAtTurns {P : Type 0} (IsOf : Nexts P → ℕ → ℕ → Type 0) (MayWait : List Turn → ℕ → Type 0)
    : Nexts P → List Heard → List Turn → List Holding → List (Option ℕ) → Type 0 where
  at_first : AreAtTurns IsOf MayWait [] [] [] [] []
  at_other : (steps : Nexts P) (heard : List Heard) (turns : List Turn) (held : List Holding)
      (moments : List (Option ℕ)) (one : Next P) → IsNoTurn one
      → AreAtTurns IsOf MayWait steps heard turns held moments
      → AreAtTurns IsOf MayWait (steps ++ one ∷ []) heard turns (held_after one held) moments
  at_visit : (steps : Nexts P) (heard : List Heard) (turns : List Turn) (held : List Holding)
      (moments : List (Option ℕ)) (place : ℕ) (how : Step)
      → AreAtTurns IsOf MayWait steps heard turns held moments → HoldsNoMore place how (requests_in held)
      → AreAtTurns IsOf MayWait (steps ++ next.Turn place ∷ []) (heard ++ ((place, how), None) ∷ []) turns
      (held_on place how held) moments
  at_turn : (steps : Nexts P) (heard : List Heard) (turns : List Turn) (held : List Holding)
      (moments : List (Option ℕ)) (number : ℕ) (one : HeldRequest)
      → AreAtTurns IsOf MayWait steps heard turns held moments → IsOf steps one.place number
      → is_held one.place (requests_in held) ≡ false
      → AreAtTurns IsOf MayWait (steps ++ next.Turn one.place ∷ [])
      (heard ++ ((one.place, step.Holds), Some one.moment) ∷ []) turns (held ++ (number, one) ∷ [])
      (moments ++ one.moment ∷ [])
  at_answer : (steps : Nexts P) (heard : List Heard) (turns more : List Turn) (front held : List Holding)
      (moments : List (Option ℕ)) → AreAtTurns IsOf MayWait steps heard turns (front ++ held) moments
      → IsShare front held
      → AreAnsweredOf (IsHeldFor (IsOf steps)) (λ before one. MayWait before one.0) turns front more
      → AreAtTurns IsOf MayWait (steps ++ next.Answer ∷ []) heard (turns ++ more) held moments

-- so they were in the meantime, by what was said and heard, and the moments are those that the clock gave, in order
abbrev pub AreAtMoments : {C P : Type 0} → (Nexts P → ℕ → ℕ → Type 0) → (List Turn → ℕ → Type 0)
    → (C → Option ℕ → C → Type 0) → C → Said P × Said P → List Turn → C → Type 0
AreAtMoments IsOf MayWait now_gives clock (old, new) turns later =
    (heard : List Heard) × (held : List Holding) × (moments : List (Option ℕ))
    × (new.heard ≡ old.heard ++ heard) × AreAtTurns IsOf MayWait (since old new) heard turns held moments
    × AreReadings now_gives clock moments later

-- How whoever is at the place stands after these requests: none is there, and that it is over is told; or one is, and
-- it isn't told that it is over, and it stands as is told.
abbrev pub StandsThere : {P : Type 0} → (List Turn → List ℕ → Type 0) → Clients P → List Turn → ℕ × Step → Type 0
StandsThere {P} may_wait s turns told =
    (IsFree s told.0 × (told.1 ≡ step.Over))
    ⊎ ((k : Client P) × IsAt s told.0 k × (told.1 ≢ step.Over) × StandsRightly may_wait k.connection turns told.1)

-- After these requests the next one of the connection of this number is whole, by what had come of it until then, and
-- may be kept waiting; and this became of that.
abbrev pub NextMayWait : (List Turn → List ℕ → Type 0) → (Traffic → Type 0) → List Turn → ℕ → Type 0
NextMayWait may_wait Became turns number =
    (t : Traffic) × (request : List ℕ) × (t.number ≡ number) × IsNextRequest t turns request × may_wait turns request
    × Became t

-- one of those that have gone is the one with this traffic, later on
abbrev pub WentLater : {P : Type 0} → (P → Traffic) → List (Past P) → Traffic → Type 0
WentLater {P} traffic gone t =
    (front : List (Past P)) × (one : Past P) × (rest : List (Past P)) × (gone ≡ front ++ one ∷ rest)
    × IsLaterOn t (traffic_past traffic one)

-- those that had gone are the first of these, and this became of each that was here
pub record HaveGoneOn {P : Type 0} (traffic : P → Traffic) (gone : List (Past P)) (Became : Traffic → Type 0)
    (s : Clients P) : Type 0 where
  pub rest : List (Past P)
  pub first : gone ≡ s.gone.items ++ rest
  pub here : (place : ℕ) (k : Client P) → IsAt s place k → Became (traffic k.peer)

-- those that had gone are the first of these, and each that was here is one of them, later on
abbrev pub HaveGoneSince : {P : Type 0} → (P → Traffic) → List (Past P) → Clients P → Type 0
HaveGoneSince traffic gone = HaveGoneOn traffic gone (WentLater traffic gone)

-- one that is here or has gone is the one with this traffic, later on
abbrev pub IsHereOrGone : {P : Type 0} → (P → Traffic) → Clients P → Traffic → Type 0
IsHereOrGone {P} traffic u t =
    ((place : ℕ) × (l : Client P) × IsAt u place l × IsLaterOn t (traffic l.peer)) ⊎ WentLater traffic u.gone.items t

-- those that had gone are the first that have gone of these, and each that was here is one of these, later on
abbrev pub HaveBecome : {P : Type 0} → (P → Traffic) → Clients P → Clients P → Type 0
HaveBecome traffic u = HaveGoneOn traffic u.gone.items (IsHereOrGone traffic u)

-- Whoever is at the place after its turn was at it before, as one may be that is kept after these requests, and took
-- its turn so.
abbrev pub TookTurn : {P : Type 0} → (P → Traffic) → ℕ → List Turn → Clients P → ℕ × Step → Type 0
TookTurn {P} traffic few turns u told =
    (before : Clients P) × (many : ℕ) × AreKept traffic few many turns before
    × TakesTurnAt traffic (get_or before.places.items told.0 None) told.1 (get_or u.places.items told.0 None)

-- The connections that were handed out by these steps are kept after these requests, which were answered so; each is at
-- its place or has gone by what was said; they became what they are known to have become; and so is told how one
-- stands.
pub record IsToldRightly {P : Type 0} (may_wait : List Turn → List ℕ → Type 0) (traffic : P → Traffic) (few : ℕ)
    (became : Clients P → Type 0) (steps : Nexts P) (turns : List Turn) (told : ℕ × Step) : Type 0 where
  pub many : ℕ
  pub clients : Clients P
  pub came : AreCounted traffic few steps many
  pub kept : AreKept traffic few many turns clients
  pub said : AreAsSaid traffic steps clients
  pub heard : List Heard
  pub held : List Holding
  pub moments : List (Option ℕ)
  pub turned : AreAtTurns (IsFor traffic clients.gone.items)
      (NextMayWait may_wait (IsHereOrGone traffic clients)) steps heard turns held moments
  pub later : became clients
  pub stands : StandsThere may_wait clients turns told
  pub took : TookTurn traffic few turns clients told

-- While these things were done, and these requests answered, this was heard of the turns: of each of them, in their
-- order, how whoever is at its place stands, by connections as they may be then.
pub data AreHeard {P : Type 0} (may_wait : List Turn → List ℕ → Type 0) (traffic : P → Traffic) (few : ℕ)
    (became : Clients P → Type 0) : Nexts P → List Turn → List Heard → Type 0 where
  heard_first : AreHeard may_wait traffic few became [] [] []
  heard_other : (steps : Nexts P) (turns : List Turn) (heard : List Heard) (one : Next P) → IsNoTurn one
      → AreHeard may_wait traffic few became steps turns heard
      → AreHeard may_wait traffic few became (steps ++ one ∷ []) turns heard
  heard_answer : (steps : Nexts P) (turns more : List Turn) (heard : List Heard)
      → AreHeard may_wait traffic few became steps turns heard
      → AreHeard may_wait traffic few became (steps ++ next.Answer ∷ []) (turns ++ more) heard
  heard_turn : (steps : Nexts P) (turns : List Turn) (heard : List Heard) (place : ℕ) (how : Step)
      (held : Option (Option ℕ)) → AreHeard may_wait traffic few became steps turns heard
      → IsToldRightly may_wait traffic few became (steps ++ next.Turn place ∷ []) turns (place, how)
      → AreHeard may_wait traffic few became (steps ++ next.Turn place ∷ []) turns
      (heard ++ ((place, how), held) ∷ [])

-- so the sockets heard of the turns in the meantime, while these requests were answered
abbrev pub HaveHeard : {P : Type 0} → (List Turn → List ℕ → Type 0) → (P → Traffic) → (Clients P → Type 0) → Said P
    → Said P → List Turn → Type 0
HaveHeard may_wait traffic became old new turns =
    (heard : List Heard) × (new.heard ≡ old.heard ++ heard)
    × AreHeard may_wait traffic old.count became (since old new) turns heard

-- so the connections stand after these requests, and after each turn in the meantime the sockets heard how it stands
abbrev pub AreKeptAtTurns : {P : Type 0} → (List Turn → List ℕ → Type 0) → (P → Traffic) → Said P → Said P → List Turn
    → Clients P → Type 0
AreKeptAtTurns may_wait traffic old new turns s =
    AreKept traffic old.count new.count turns s × HaveHeard may_wait traffic (HaveBecome traffic s) old new turns

-- Each request that was answered is of one of the connections, of which no two have the same number. And of each
-- connection what came spells its requests among these, and what it was sent is a first part of the replies to them.
pub record AreConnectionsTold {P : Type 0} (traffic : P → Traffic) (turns : List Turn) (gone : List (Past P))
    : Type 0 where
  pub known : All (λ turn. HasGone traffic turn.0 gone) turns
  pub apart : AreApart traffic gone
  pub told : All (IsPast traffic turns) gone

-- the last of these requests is one that is put to a store, and the reply to it is 503
abbrev pub EndUnavailable : List Exchange → Type 0
EndUnavailable xs =
    (front : List Exchange) × (last : Exchange) × (xs ≡ front ++ last ∷ []) × IsUnavailable last.reply
    × ReachesStore last.moment last.request

-- The requests of all connections were answered over a store, in groups, one after another, each group over the store
-- that the one before it left and that was only read since, by the replies of a run of the hall, and none after one
-- that a store answered by 503 which serves no more. And of each connection that came, the first bytes spell its
-- requests among these, and what it was sent is a first part of the replies to them. Where a store that was shut ended
-- it, the last request is one that is put to the store, and its reply is 503.
pub record AreServed {H P : Type 0} (content : H → Content) (traffic : P → Traffic) (why : ServeAllEnd)
    (before after : H) (gone : List (Past P)) : Type 0 where
  pub turns : List Turn
  pub groups : List (List Exchange)
  pub grouped : of_groups groups ≡ exchanges_of turns
  pub settled : IsSettled (content before)
  pub answered : AreAnsweredWhileOpen content before groups after
  pub leads : Leads (content before) (content after)
  pub run : (content after).honest → RunsOver (content before) (exchanges_of turns) (content after)
  pub stops : LeavesRunByGroups (content before) groups (content after)
  pub shut : why ≡ end.Shut → EndUnavailable (exchanges_of turns)
  pub told : AreConnectionsTold traffic turns gone

-- So they were, each at the moment that was read for it after a turn of its connection, in the order of these turns, by
-- what the sockets said in the meantime; and of the turns they heard how whoever was there stood.
abbrev pub AreServedAtTurns : {H C P : Type 0} → (H → Content) → (C → Option ℕ → C → Type 0) → (P → Traffic)
    → ServeAllEnd → (H × C) × Said P → (H × C) × Said P → List (Past P) → Type 0
AreServedAtTurns content now_gives traffic why (before, old) (after, new) gone =
    (all : AreServed content traffic why before.0 after.0 gone)
    × AreAtMoments (IsFor traffic gone)
    (NextMayWait (WaitsForWorkAfter content before.0 after.0 all.turns) (WentLater traffic gone)) now_gives before.1
    (old, new) all.turns after.1
    × HaveHeard (WaitsForWorkAfter content before.0 after.0 all.turns) traffic (HaveGoneSince traffic gone) old new
    all.turns

-- the connections that have gone are those of these numbers
pub record AreThose {P : Type 0} (traffic : P → Traffic) (few many : ℕ) (gone : List (Past P)) : Type 0 where
  pub within : All (λ one. IsHandedOut few many (number_past traffic one)) gone
  pub found : (number : ℕ) → IsHandedOut few many number → HasGone traffic number gone

-- Serving ended so, as the sockets said. The connections that came and have gone are those that the sockets handed out,
-- each by its number, and no others; each went by what the sockets said, or was here until they had said all; and where
-- all were served, all that may come have come and gone.
pub record EndsServing {L P : Type 0} (is_over : L → Type 0) (said : L → Said P) (traffic : P → Traffic)
    (why : ServeAllEnd) (before after : L) (gone : List (Past P)) : Type 0 where
  pub over : why ≡ end.Served → is_over after
  pub done : AreDone traffic why (said before) (said after)
  pub those : AreThose traffic (said before).count (said after).count gone
  pub ways : HaveGone traffic (since (said before) (said after)) gone
