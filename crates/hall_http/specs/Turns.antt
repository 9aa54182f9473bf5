-- Many connections, and what each was told.
use Rattle.std.specs.Prelude.{◌≡◌, ◌≢◌, ◌≤◌, ◌==◌, ◌+◌, ◌⊎◌, ℕ, List, [], ◌∷◌, ◌++◌, length, map, filter, All}
use Rattle.std.specs.Prelude.{Option, Some, None, Bool, true, false}
use Rattle.hall_http.specs.Limits.{most_reads, most_requests, most_waiting}
use Rattle.hall_http.specs.Served.{HaveRead, MayGoOn, refusal}
use Rattle.hall_http.specs.Connection.{Exchange, AreOpen, requests_of, replies_of, of_groups}
use Rattle.hall_http.specs.Resting.{IsGroup, RestingGroups, RestingSession, still}
use Rattle.hall_http.specs.Steps.{WaitsRightly, gated, gated_group}
use Rattle.hall_http.specs.Head.{IsWholeRequest, IsUnfinished, HasNoWholeRequest, NeverHas}
use Rattle.hall_http.specs.History.{ConnectionHistory, HasHistory, Ends, told_at}
use Rattle.hall_http.specs.Peer.{Traffic, IsLaterOn, IsOver}
use Rattle.hall_http.specs.declared.client.Client.{Client}
use Rattle.hall_http.specs.declared.client.Step.{Step}
use Rattle.hall_http.specs.declared.client.Step.TheVariants as step
use Rattle.hall_http.specs.declared.connection.ServeEnd.{ServeEnd}
use Rattle.hall_http.specs.declared.connection.State.TheVariants as state

-- a request that was answered, and the number of its connection among all that came
abbrev pub Turn : Type 0
Turn = ℕ × Exchange

-- the requests that were answered, of all connections
abbrev pub exchanges_of : List Turn → List Exchange
exchanges_of turns = map (λ turn. turn.1) turns

-- those of one connection
abbrev pub of : ℕ → List Turn → List Exchange
of number turns = exchanges_of (filter (λ turn. turn.0 == number) turns)

-- all replies were sent; or all before the last, and a first part of that
abbrev pub AreSent : List Exchange → List ℕ → Type 0
AreSent xs went =
    (went ≡ replies_of xs)
    ⊎ ((before : List Exchange) × (last : Exchange) × (front rest : List ℕ) × (xs ≡ before ++ last ∷ [])
    × (last.reply ≡ front ++ rest) × (went ≡ replies_of before ++ front))

-- all replies were sent, and then a first part of the reply to bytes that are no request
abbrev pub IsRefusedAfter : List Exchange → List ℕ → Type 0
IsRefusedAfter xs went = (front rest : List ℕ) × (refusal ≡ front ++ rest) × (went ≡ replies_of xs ++ front)

-- Bytes that wait may be refused, by whether a read told that no more comes: a further request may come; and none can
-- be made of them, however they go on, or some are left, unfinished, and no more comes.
abbrev pub IsRefusedRightly : List Exchange → List ℕ → Bool → Type 0
IsRefusedRightly xs unread over =
    MayGoOn xs × (NeverHas unread ⊎ ((unread ≢ []) × IsUnfinished unread × (over ≡ true)))

-- none of these requests closes the connection, but perhaps the last
abbrev pub AreOpenButLast : List Exchange → Type 0
AreOpenButLast xs =
    AreOpen xs ⊎ ((before : List Exchange) × (last : Exchange) × (xs ≡ before ++ last ∷ []) × AreOpen before)

-- The connection has ended so after these requests: so many reads gave bytes and one more told the end of the input, or
-- none did; these bytes are left; and all was sent that is told by then.
abbrev pub HasEnded : List Exchange → ℕ → Bool → List ℕ → List ℕ → Type 0
HasEnded xs pieces ended unread went =
    (e : ServeEnd) × (t : ConnectionHistory) × (t.exchanges ≡ xs) × (t.pieces ≡ pieces) × (t.ended ≡ ended)
    × Ends e t unread
    × (went ≡ told_at e xs)

-- The first bytes that came of a connection are these requests, at most 1,000, of which none but the last closes it.
-- It was sent their replies, in their order, the last perhaps in part; or all of them and then the reply F7, where what
-- was left may be refused, and no whole request stands at the front of what came after. At most 100,000 of its reads
-- gave bytes, each where what waited was unfinished, and then these bytes were left. What came after them was read off
-- once the connection had ended, by the rest of its reads, and only then it was told that no more is sent.
pub record IsConnectionTold (xs : List Exchange) (t : Traffic) : Type 0 where
  pub rest : List ℕ
  pub spelled : t.came ≡ requests_of xs ++ rest
  pub whole : All (λ x. IsWholeRequest x.request) xs
  pub opened : AreOpenButLast xs
  pub few : length xs ≤ most_requests
  pub pieces : ℕ
  pub unread : List ℕ
  pub off : List ℕ
  pub read_off : ℕ
  pub told : AreSent xs t.went ⊎ (IsRefusedAfter xs t.went × IsRefusedRightly xs unread t.over × HasNoWholeRequest rest)
  pub seldom : pieces ≤ most_reads
  pub counted : t.reads ≡ pieces + read_off
  pub some_off : read_off ≤ length off
  pub reading : HaveRead xs pieces unread
  pub bounded : length unread ≤ most_waiting
  pub parts : rest ≡ unread ++ off
  pub quiet : (off ≡ []) ⊎ HasEnded xs pieces false unread t.went
  pub closes : t.hung_up ≡ true
      → (ended : Bool) × (ended ≡ true → t.over ≡ true) × HasEnded xs pieces ended unread t.went

-- the connection was answered these requests, and what it heard and was told is what came of its peer and went to it,
-- the end only where its peer told it, and in as many reads; once it has ended, some more may have come, which is read
-- off, at least a byte in a read, and only then its peer is told that no more is sent
pub record IsClient {P : Type 0} (traffic : P → Traffic) (xs : List Exchange) (k : Client P) : Type 0 where
  pub history : ConnectionHistory
  pub has : HasHistory history k.connection
  pub answered : history.exchanges ≡ xs
  pub off : List ℕ
  pub quiet : (off ≡ []) ⊎ ((e : ServeEnd) × (k.connection.state ≡ state.Ended e) × (history.ended ≡ false))
  pub over : k.is_over ≡ false → history.ended ≡ false
  pub at_end : history.ended ≡ true → (traffic k.peer).over ≡ true
  pub read_over : k.is_over ≡ true → (traffic k.peer).over ≡ true
  pub hung_up : (traffic k.peer).hung_up ≡ k.is_leaving
  pub leaving : k.is_leaving ≡ true → (e : ServeEnd) × (k.connection.state ≡ state.Ended e)
  pub heard : (traffic k.peer).came ≡ history.came ++ off
  pub read_off : ℕ
  pub counted : (traffic k.peer).reads ≡ history.pieces + read_off
  pub some_off : read_off ≤ length off
  pub sent : (traffic k.peer).went ≡ history.went

-- whatever it was answered, it was answered no more, and it is the same connection, later on
pub record IsClientKept {P : Type 0} (traffic : P → Traffic) (k l : Client P) : Type 0 where
  pub later : IsLaterOn (traffic k.peer) (traffic l.peer)
  pub kept : (xs : List Exchange) → IsClient traffic xs k → IsClient traffic xs l

-- a connection is over after its turn only where no more goes to its peer; or where that was told that no more is sent,
-- and no more comes of it
abbrev pub IsOverRightly : Step → Traffic → Type 0
IsOverRightly step.Over t = IsOver t
IsOverRightly _ t = Unit {0}

-- it went a step without an answer, and it waits for what it is at
abbrev pub IsMoved : {P : Type 0} → (P → Traffic) → Client P → Step → Client P → Type 0
IsMoved traffic k step l =
    IsClientKept traffic k l × IsOverRightly step (traffic l.peer) × WaitsRightly step l.connection

-- how requests are answered: what a responder may answer, alone or together, how it rests, and what it may keep waiting
pub record Service (H : Type 0) : Type 1 where
  pub answers : H → Option ℕ → List ℕ → List ℕ → H → Type 0
  pub joins : H → List Exchange → H → Type 0
  pub rests : H → H → Type 0
  pub may_wait : H → List ℕ → Type 0

-- by a responder that answers while it goes on
abbrev pub service_of : {H : Type 0} → (H → Option ℕ → List ℕ → List ℕ → H → Type 0)
    → (H → List Exchange → H → Type 0) → (H → List ℕ → H → Type 0) → (H → H → Type 0) → (H → List ℕ → Type 0)
    → Service (H × Bool)
service_of answers joins goes_on rests may_wait = record {
  answers = gated answers goes_on;
  joins = gated_group joins goes_on;
  rests = still rests;
  may_wait = λ h. may_wait h.0;
}

-- these requests were answered, in some groups, one after another, with rests before, between and after them
abbrev pub GroupedSession : {H : Type 0} → Service H → H → List Exchange → H → Type 0
GroupedSession service h xs i =
    (groups : List (List Exchange)) × (of_groups groups ≡ xs)
    × RestingGroups (IsGroup service.answers service.joins) service.rests h groups i

-- the next request of a connection after these, by what came of it, is this one, which is whole
abbrev pub IsNextRequest : Traffic → List Turn → List ℕ → Type 0
IsNextRequest t turns request =
    (rest : List ℕ) × (t.came ≡ requests_of (of t.number turns) ++ request ++ rest) × IsWholeRequest request

-- none of these requests, or one, at the moment
abbrev pub IsOneAt : Option ℕ → List Exchange → Type 0
IsOneAt moment more = (more ≡ []) ⊎ ((x : Exchange) × (more ≡ x ∷ []) × (x.moment ≡ moment))

-- a request of it was answered at the moment, or none was, and it is the same connection, later on
pub record IsClientAnswered {H P : Type 0} (service : Service H) (traffic : P → Traffic) (moment : Option ℕ)
    (before : H) (k : Client P) (after : H) (l : Client P) : Type 0 where
  pub later : IsLaterOn (traffic k.peer) (traffic l.peer)
  pub answered : (xs : List Exchange) → IsClient traffic xs k
      → (more : List Exchange) × IsOneAt moment more
      × RestingSession service.answers service.rests before more after × IsClient traffic (xs ++ more) l

-- the connection at a place, if there is one, was answered nothing more
abbrev pub IsPlaceKept : {P : Type 0} → (P → Traffic) → Option (Client P) → Option (Client P) → Type 0
IsPlaceKept {P} traffic old new =
    ((old ≡ None) × (new ≡ None))
    ⊎ ((k l : Client P) × (old ≡ Some k) × (new ≡ Some l) × IsClientKept traffic k l)

-- so it is of the connection at a place, if there is one
abbrev pub IsPlaceAnswered : {H P : Type 0} → Service H → (P → Traffic) → Option ℕ → H → Option (Client P) → H
    → Option (Client P) → Type 0
IsPlaceAnswered {H} {P} service traffic moment before old after new =
    ((old ≡ None) × (new ≡ None) × (after ≡ before))
    ⊎ ((k l : Client P) × (old ≡ Some k) × (new ≡ Some l) × IsClientAnswered service traffic moment before k after l)
