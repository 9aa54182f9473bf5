-- What a connection does at its turn, so that it comes on.
use Rattle.std.specs.Prelude.{◌≡◌, ◌≢◌, ◌≤◌, ◌+◌, ◌⊎◌, ℕ, List, [], ◌∷◌, ◌++◌, length, All}
use Rattle.std.specs.Prelude.{Option, Some, None}
use Rattle.hall_http.specs.Steps.{HasRequest, KeepsWaiting}
use Rattle.hall_http.specs.Peer.{Calls, Traffic}
use Rattle.hall_http.specs.declared.client.Client.{Client}
use Rattle.hall_http.specs.declared.client.Step.{Step}
use Rattle.hall_http.specs.declared.client.Step.TheVariants as step
use Rattle.hall_http.specs.declared.connection.Wish.{Wish}
use Rattle.hall_http.specs.declared.connection.Wish.TheVariants as wish
use Rattle.hall_http.specs.declared.connection.State.{State}
use Rattle.hall_http.specs.declared.connection.State.TheVariants as state
use Rattle.hall_http.specs.declared.peer.Call.{Call}
use Rattle.hall_http.specs.declared.peer.Call.TheVariants as call
use Rattle.hall_http.specs.declared.peer.Moved.{Moved}
use Rattle.hall_http.specs.declared.peer.Moved.TheVariants as moved

-- the steps of a turn
abbrev pub most_steps : ℕ
most_steps = 5

-- the call had nothing to wait for: it moved bytes, or told that no more move
abbrev pub HadNoWait : Call × Moved → Type 0
HadNoWait made = made.1 ≢ moved.Wait

-- by which call one waits for this
abbrev pub call_of : Wish → Call
call_of wish.Taking = call.Send
call_of _ = call.Receive

-- The calls of a turn that ended with this step. One waits for the other side only where the last of them told that it
-- would have to, and is the one by which it waits for that; it reads off only what the last one gave; and no other of
-- them told that it would have to wait.
abbrev pub EndsCalls : Step → Calls → Type 0
EndsCalls (step.Waits what requests) made =
    (before : Calls) × All HadNoWait before × (made ≡ before ++ (call_of what, moved.Wait) ∷ [])
EndsCalls step.Leaves made =
    (before : Calls) × (count : ℕ) × All HadNoWait before
    × (made ≡ before ++ (call.Receive, moved.Some count) ∷ [])
EndsCalls _ made = All HadNoWait made

-- how far it has come without a request that is answered and without a call
abbrev pub rank : State → ℕ
rank (state.Writing None) = 0
rank state.Looking = 1
rank state.Reading = 2
rank (state.Writing (Some ending)) = 2
rank (state.Ended ending) = 3

-- where a whole request stood at the front, it is to be answered, unless it is to wait for the work that it needs
abbrev pub HoldsFirst : {P : Type 0} → Client P → Step → Type 0
HoldsFirst k how =
    k.connection.state ≡ state.Looking → HasRequest k.connection
    → (how ≡ step.Holds) ⊎ ((requests : ℕ) × (how ≡ step.Searches requests))

-- Where a whole request stood at the front and its connection was to be answered, it was, unless it is to wait for the
-- work that it needs.
abbrev pub AnswersFirst : {H P : Type 0} → (H → List ℕ → Type 0) → Client P → H → Client P → Type 0
AnswersFirst may_wait k h l =
    k.connection.state ≡ state.Looking → HasRequest k.connection
    → (l.connection.requests ≡ k.connection.requests + 1) ⊎ KeepsWaiting may_wait k.connection h

-- so it was of whoever was at the place
abbrev pub AnswersFirstAt : {H P : Type 0} → (H → List ℕ → Type 0) → Option (Client P) → H → Option (Client P) → Type 0
AnswersFirstAt {H} {P} may_wait old h new =
    (k : Client P) → old ≡ Some k → (l : Client P) × (new ≡ Some l) × AnswersFirst may_wait k h l

-- What a connection did in so many steps, the last of which was this: it made these calls, one at a step at most, and
-- answered nothing.
pub record Goes {P : Type 0} (traffic : P → Traffic) (steps : ℕ) (k : Client P) (how : Step) (l : Client P)
    : Type 0 where
  pub calls : Calls
  pub made : (traffic l.peer).calls ≡ (traffic k.peer).calls ++ calls
  pub few : length calls ≤ steps
  pub ends : EndsCalls how calls
  pub answered : l.connection.requests ≡ k.connection.requests
  pub first : HoldsFirst k how
  pub comes : how ≡ step.Again → (calls ≢ []) ⊎ (rank k.connection.state + steps ≤ rank l.connection.state)

-- What a connection did at its turn: it made these calls, five at most, and answered nothing. Where a whole request
-- stood at the front, that is to be answered, unless it is to wait for the work that it needs. One that can go on at
-- once made a call; and one that waits for the other side had to.
pub record TakesTurn {P : Type 0} (traffic : P → Traffic) (k : Client P) (how : Step) (l : Client P) : Type 0 where
  pub calls : Calls
  pub made : (traffic l.peer).calls ≡ (traffic k.peer).calls ++ calls
  pub few : length calls ≤ most_steps
  pub ends : EndsCalls how calls
  pub answered : l.connection.requests ≡ k.connection.requests
  pub first : HoldsFirst k how
  pub comes : how ≡ step.Again → calls ≢ []

-- whoever is at the place after this turn of it was there before, and took its turn so
abbrev pub TakesTurnAt : {P : Type 0} → (P → Traffic) → Option (Client P) → Step → Option (Client P) → Type 0
TakesTurnAt {P} traffic old how new =
    (l : Client P) → new ≡ Some l → (k : Client P) × (old ≡ Some k) × TakesTurn traffic k how l
