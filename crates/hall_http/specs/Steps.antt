-- The steps of a connection.
use Rattle.std.specs.Prelude.{◌≡◌, ◌≢◌, ◌<◌, ◌≤◌, ◌+◌, ◌==◌, ◌⊎◌, ℕ, Bool, true, false, if◌then◌else◌}
use Rattle.std.specs.Prelude.{List, [], ◌∷◌, ◌++◌}
use Rattle.std.specs.Prelude.{length, take, drop, All, Option, Some, None}
use Rattle.hall_http.specs.Limits.{most_reads, most_requests}
use Rattle.hall_http.specs.Answered.{IsUnavailable, answer_text}
use Rattle.hall_http.specs.Outgoing.{outgoing_text}
use Rattle.hall_http.specs.Request.{ReachesStore}
use Rattle.hall_http.specs.Connection.{Exchange, Exchanged, LeavesOpen, IsClosing}
use Rattle.hall_http.specs.Head.{HasNoWholeRequest, IsUnfinished, IsUnfinishedBelow, IsWholeRequest, NeverHas}
use Rattle.hall_http.specs.Joining.{planned}
use Rattle.hall_policy.specs.declared.record.AnswerRow.{AnswerRow}
use Rattle.hall_http.specs.declared.answer.Answer.TheVariants.{Unavailable, Shut}
use Rattle.hall_http.specs.declared.connection.Joined.{Joined}
use Rattle.hall_http.specs.declared.outgoing.Outgoing.TheVariants.{Nothing, Refusal}
use Rattle.hall_http.specs.declared.group_end.GroupEnd.{GroupEnd}
use Rattle.hall_http.specs.declared.group_end.GroupEnd.TheVariants as group
use Rattle.hall_http.specs.declared.client.Step.{Step}
use Rattle.hall_http.specs.declared.client.Step.TheVariants as step
use Rattle.hall_http.specs.declared.connection.Wish.{Wish}
use Rattle.hall_http.specs.declared.connection.Wish.TheVariants as wish
use Rattle.hall_http.specs.declared.connection.Connection.{Connection}
use Rattle.hall_http.specs.declared.connection.ServeEnd.{ServeEnd}
use Rattle.hall_http.specs.declared.connection.ServeEnd.TheVariants as end
use Rattle.hall_http.specs.declared.connection.State.{State}
use Rattle.hall_http.specs.declared.connection.State.TheVariants as state

-- the bytes that wait to be sent
abbrev pub pending : Connection → List ℕ
pending k = drop k.sent (outgoing_text k.reply)

-- one of which nothing was heard
abbrev pub fresh : Connection
fresh = record { inbox = []; least = 0; reply = Nothing; sent = 0; requests = 0; reads = 0; state = state.Looking }

-- these bytes were heard
abbrev pub IsAfterHearing : Connection → List ℕ → Connection → Type 0
IsAfterHearing k piece l =
    l ≡ record k { inbox = k.inbox ++ piece; reads = k.reads + 1; state = state.Looking }

-- the end of the input was heard: with bytes left they are refused, and else the connection has ended
abbrev pub IsAfterEnd : Connection → Connection → Type 0
IsAfterEnd k l =
    ((k.inbox ≡ []) × (l ≡ record k { reads = k.reads + 1; state = state.Ended end.Closed }))
    ⊎ ((0 < length k.inbox)
    × (l ≡ record k { reads = k.reads + 1; reply = Refusal; sent = 0; state = state.Writing (Some end.BadHead) }))

-- what comes once all of a reply is sent
abbrev pub after_reply : State → State
after_reply (state.Writing (Some e)) = state.Ended e
after_reply (state.Writing None) = state.Looking
after_reply s = s

-- so many of the bytes that waited were sent
abbrev pub IsAfterSending : Connection → ℕ → Connection → Type 0
IsAfterSending k count l =
    ((count < length (pending k)) × (l ≡ record k { sent = k.sent + count }))
    ⊎ ((count ≡ length (pending k)) × (l ≡ record k { sent = 0; reply = Nothing; state = after_reply k.state }))

-- what comes after the reply to a request that closes the connection or doesn't, the so many-th
abbrev pub then_of : Bool → ℕ → Option ServeEnd
then_of true requests = Some end.Closed
then_of false requests = if requests == most_requests then Some end.Limit else None

-- after a request the connection ends where it closes it, or where it was the last that may come
abbrev pub EndsAfter : List ℕ → ℕ → Option ServeEnd → Type 0
EndsAfter request requests (Some end.Closed) = IsClosing request
EndsAfter request requests (Some end.Limit) = LeavesOpen request × (requests ≡ most_requests)
EndsAfter request requests None = LeavesOpen request × (requests ≢ most_requests)
EndsAfter request requests (Some _) = ⊥

-- A responder that goes on answers a request. Where it still goes on then, it can; and where it doesn't, the reply is
-- 503, to a request that is put to the store at a moment.
abbrev pub gated : {H : Type 0} → (H → Option ℕ → List ℕ → List ℕ → H → Type 0) → (H → List ℕ → H → Type 0)
    → H × Bool → Option ℕ → List ℕ → List ℕ → H × Bool → Type 0
gated answers goes_on h moment request reply i =
    (h.1 ≡ true) × answers h.0 moment request reply i.0 × (i.1 ≡ true → goes_on h.0 reply i.0)
    × (i.1 ≡ false → IsUnavailable reply × ReachesStore moment request)

-- there are some of these requests, each of them is put to the store at a moment, and the reply to each is 503
abbrev pub AreUnavailable : List Exchange → Type 0
AreUnavailable xs = (xs ≢ []) × All (λ x. IsUnavailable x.reply × ReachesStore x.moment x.request) xs

-- so it is where a responder that goes on answers some requests together
abbrev pub gated_group : {H : Type 0} → (H → List Exchange → H → Type 0) → (H → List ℕ → H → Type 0)
    → H × Bool → List Exchange → H × Bool → Type 0
gated_group joins goes_on h xs i =
    (h.1 ≡ true) × joins h.0 xs i.0 × (i.1 ≡ true → All (λ x. goes_on h.0 x.reply i.0) xs)
    × (i.1 ≡ false → AreUnavailable xs)

-- a whole request stood at the front: it was answered, and its reply waits to be sent
pub record Answers {H C : Type 0} (answers : H → Option ℕ → List ℕ → List ℕ → H → Type 0)
    (now_gives : C → Option ℕ → C → Type 0) (before : H × C) (k : Connection) (after : H × C) (l : Connection) :
    Type 0 where
  pub exchange : Exchange
  pub size : ℕ
  pub ending : Option ServeEnd
  pub front : exchange.request ≡ take size k.inbox
  pub exchanged : Exchanged answers now_gives before.0 before.1 exchange after.0 after.1
  pub reply : outgoing_text l.reply ≡ exchange.reply
  pub ends : EndsAfter exchange.request (k.requests + 1) ending
  pub left : l ≡ record k {
    inbox = drop size k.inbox;
    least = 0;
    reply = l.reply;
    sent = 0;
    requests = k.requests + 1;
    state = state.Writing ending;
  }

-- what waits is unfinished, and more has to be read, unless no further read may be made
pub record Waits (k l : Connection) : Type 0 where
  pub unfinished : IsUnfinished k.inbox
  pub below : IsUnfinishedBelow l.least k.inbox
  pub left : l ≡ record k {
    least = l.least;
    state = if k.reads == most_reads then state.Ended end.Limit else state.Reading;
  }

-- no bytes can make a request of what waits: it is refused
pub record Refuses (k l : Connection) : Type 0 where
  pub never : NeverHas k.inbox
  pub left : l ≡ record k { reply = Refusal; sent = 0; state = state.Writing (Some end.BadHead) }

-- it was looked at what waits
abbrev pub Looks : {H C : Type 0} → (H → Option ℕ → List ℕ → List ℕ → H → Type 0) → (C → Option ℕ → C → Type 0)
    → H × C → Connection → H × C → Connection → Type 0
Looks answers now_gives before k after l =
    Answers answers now_gives before k after l ⊎ ((after ≡ before) × (Waits k l ⊎ Refuses k l))

-- a whole request stands at the front of what waits
abbrev pub HasRequest : Connection → Type 0
HasRequest k = (size : ℕ) × IsWholeRequest (take size k.inbox)

-- Whether a whole request stands at the front of what waits. Where none does, bytes that are none are refused, or more
-- has to be read.
abbrev pub Finds : Connection → Bool → Connection → Type 0
Finds k true l = (l ≡ k) × HasRequest k
Finds k false l = Waits k l ⊎ Refuses k l

-- a clock that gives this moment, and no other
abbrev pub gives : Option ℕ → Unit {0} → Option ℕ → Unit {0} → Type 0
gives moment before told after = told ≡ moment

-- the request that stands at the front of what waits was answered at the moment; or none does
abbrev pub AnswersAt : {H : Type 0} → (H → Option ℕ → List ℕ → List ℕ → H → Type 0) → Option ℕ → H → Connection → H
    → Connection → Type 0
AnswersAt answers moment before k after l =
    Answers answers (gives moment) (before, tt) k (after, tt) l
    ⊎ ((after ≡ before) × (l ≡ k) × HasNoWholeRequest k.inbox)

-- this whole request stands at the front of what waits
pub record StandsInFront (k : Connection) (joined : Joined) : Type 0 where
  pub whole : IsWholeRequest (take joined.size k.inbox)
  pub inside : joined.size ≤ length k.inbox
  pub ends : (requests : ℕ) → EndsAfter (take joined.size k.inbox) requests (then_of joined.closes requests)

-- it was answered so, and its reply waits to be sent
pub record Accepts (k : Connection) (joined : Joined) (l : Connection) : Type 0 where
  pub reply : outgoing_text l.reply ≡ answer_text joined.answer
  pub left : l ≡ record k {
    inbox = drop joined.size k.inbox;
    least = 0;
    reply = l.reply;
    sent = 0;
    requests = k.requests + 1;
    state = state.Writing (then_of joined.closes (k.requests + 1));
  }

-- what it is told once the one write for it and others has ended so
abbrev pub joined_told : GroupEnd → Joined → Joined
joined_told group.Stored joined = joined
joined_told group.Refused joined = record joined { answer = Unavailable }
joined_told group.Shut joined = record joined { answer = Shut }

-- the request that stands at the front of what waits joined those that are to be answered together; or none did
abbrev pub JoinsFront : {H : Type 0} → (List Exchange → List AnswerRow → H → Type 0) → List Exchange → Option ℕ
    → Connection → Option Joined → List AnswerRow → H → Type 0
JoinsFront have_joined xs moment k (Some joined) rows h =
    StandsInFront k joined × have_joined (xs ++ planned moment (take joined.size k.inbox) joined.answer ∷ []) rows h
JoinsFront have_joined xs moment k None rows h = have_joined xs rows h

-- a whole request stands at the front of what waits, and may be kept waiting
abbrev pub KeepsWaiting : {H : Type 0} → (H → List ℕ → Type 0) → Connection → H → Type 0
KeepsWaiting may_wait k h = (size : ℕ) × IsWholeRequest (take size k.inbox) × may_wait h (take size k.inbox)

-- what a connection waits for while it reads: a request, or where some of one came the rest of it
abbrev pub wish_of : List ℕ → Wish
wish_of [] = wish.Idle
wish_of (x ∷ more) = wish.Asking

-- it waits for what it is at: it reads, its reply is being sent, or it has ended
abbrev pub AwaitsRightly : Wish → Connection → Type 0
AwaitsRightly what k =
    ((k.state ≡ state.Reading) × (what ≡ wish_of k.inbox))
    ⊎ ((ending : Option ServeEnd) × (k.state ≡ state.Writing ending) × (what ≡ wish.Taking))
    ⊎ ((e : ServeEnd) × (k.state ≡ state.Ended e) × (what ≡ wish.Leaving))

-- where the step is that it waits for the other side, it does so for what it is at, and so many were answered before;
-- it reads off only what comes after its end; and it waits for nothing else
abbrev pub WaitsRightly : Step → Connection → Type 0
WaitsRightly (step.Waits what requests) k = AwaitsRightly what k × (requests ≡ k.requests)
WaitsRightly step.Leaves k = (e : ServeEnd) × (k.state ≡ state.Ended e)
WaitsRightly (step.Searches requests) k = ⊥
WaitsRightly step.Holds k = ⊥
WaitsRightly _ k = Unit {0}

-- so it stands after its turn; or where the step is that its request needs more work, it is to be looked at again, the
-- request may be kept waiting, and so many were answered before it; or where it is that it is to be answered, it is to
-- be looked at, and a whole one stands at the front
abbrev pub StandsRightly : {H : Type 0} → (H → List ℕ → Type 0) → Connection → H → Step → Type 0
StandsRightly may_wait k h (step.Searches requests) =
    (k.state ≡ state.Looking) × KeepsWaiting may_wait k h × (requests ≡ k.requests)
StandsRightly may_wait k h step.Holds = (k.state ≡ state.Looking) × HasRequest k
StandsRightly may_wait k h other = WaitsRightly other k
