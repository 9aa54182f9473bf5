-- What a connection has heard and was told, and what is true of it.
use Rattle.std.specs.Prelude.{◌≡◌, ◌≢◌, ◌<◌, ◌≤◌, ◌+◌, ◌⊎◌, ℕ, Bool, true, false, if◌then◌else◌, List, [], ◌∷◌, ◌++◌}
use Rattle.std.specs.Prelude.{length, take, All, Some, None}
use Rattle.hall_http.specs.Limits.{most_reads, most_requests, most_waiting}
use Rattle.hall_http.specs.Outgoing.{outgoing_text}
use Rattle.hall_http.specs.Connection.{Exchange, requests_of, replies_of, AreOpen}
use Rattle.hall_http.specs.Head.{IsWholeRequest, IsUnfinished, IsUnfinishedBelow, NeverHas}
use Rattle.hall_http.specs.Served.{HaveRead, IsLastRequest, MayGoOn, ClosesLast, HasAnsweredAll, refusal}
use Rattle.hall_http.specs.declared.connection.Connection.{Connection}
use Rattle.hall_http.specs.declared.connection.ServeEnd.{ServeEnd}
use Rattle.hall_http.specs.declared.connection.ServeEnd.TheVariants as end
use Rattle.hall_http.specs.declared.connection.State.{State}
use Rattle.hall_http.specs.declared.connection.State.TheVariants as state

-- all bytes that were heard, in so many reads, and whether one more told the end of the input; the requests that were
-- answered; and all bytes that were sent
pub record ConnectionHistory : Type 0 where
  pub came : List ℕ
  pub pieces : ℕ
  pub ended : Bool
  pub exchanges : List Exchange
  pub went : List ℕ

-- of a connection that just came
abbrev pub nothing : ConnectionHistory
nothing = record { came = []; pieces = 0; ended = false; exchanges = []; went = [] }

-- after these bytes were heard; after the end was; after a request was answered; after these bytes were sent
abbrev pub then_heard : ConnectionHistory → List ℕ → ConnectionHistory
then_heard t piece = record t { came = t.came ++ piece; pieces = t.pieces + 1 }

abbrev pub then_ended : ConnectionHistory → ConnectionHistory
then_ended t = record t { ended = true }

abbrev pub then_answered : ConnectionHistory → Exchange → ConnectionHistory
then_answered t x = record t { exchanges = t.exchanges ++ x ∷ [] }

abbrev pub then_sent : ConnectionHistory → List ℕ → ConnectionHistory
then_sent t bytes = record t { went = t.went ++ bytes }

-- how many reads were made
abbrev pub reads_of : ConnectionHistory → ℕ
reads_of t = t.pieces + (if t.ended then 1 else 0)

-- Why a connection ends. `Closed`: the input has ended and nothing is left, or the last request closes it. `BadHead`:
-- no request can be made of what is left. `Limit`: 1,000 requests were answered, or 100,000 reads gave bytes and what
-- is left is unfinished.
abbrev pub Ends : ServeEnd → ConnectionHistory → List ℕ → Type 0
Ends end.Closed t unread =
    (MayGoOn t.exchanges × (unread ≡ []) × (t.ended ≡ true))
    ⊎ (ClosesLast t.exchanges unread t.pieces × (t.ended ≡ false))
Ends end.BadHead t unread =
    MayGoOn t.exchanges
    × (((unread ≢ []) × IsUnfinished unread × (t.ended ≡ true)) ⊎ (NeverHas unread × (t.ended ≡ false)))
Ends end.Limit t unread =
    AreOpen t.exchanges × (t.ended ≡ false)
    × (HasAnsweredAll t.exchanges unread t.pieces
    ⊎ ((length t.exchanges < most_requests) × (t.pieces ≡ most_reads) × IsUnfinished unread))
Ends end.Device t unread = ⊥

-- all that is told by then
abbrev pub told_at : ServeEnd → List Exchange → List ℕ
told_at end.BadHead xs = replies_of xs ++ refusal
told_at _ xs = replies_of xs

-- nothing waits to be sent, the connection is open, and a further request may come
pub record IsOpenAndIdle (t : ConnectionHistory) : Type 0 where
  pub goes_on : MayGoOn t.exchanges
  pub more : t.ended ≡ false
  pub told : t.went ≡ replies_of t.exchanges

-- the reply to the last request is being sent, and all replies before it were
pub record IsReplying (t : ConnectionHistory) (k : Connection) : Type 0 where
  pub before : List Exchange
  pub last : Exchange
  pub is_last : IsLastRequest before last t.exchanges t.pieces k.inbox
  pub more : t.ended ≡ false
  pub opened : AreOpen before
  pub reply : outgoing_text k.reply ≡ last.reply
  pub told : t.went ≡ replies_of before ++ take k.sent last.reply

-- bytes that are no request are being refused, and all replies before were sent
pub record IsRefusing (t : ConnectionHistory) (k : Connection) : Type 0 where
  pub reply : outgoing_text k.reply ≡ refusal
  pub told : t.went ≡ replies_of t.exchanges ++ take k.sent refusal

-- what is being sent, before such an end
abbrev pub IsSending : ServeEnd → ConnectionHistory → Connection → Type 0
IsSending end.BadHead t k = IsRefusing t k
IsSending _ t k = IsReplying t k

-- how a connection stands
abbrev pub StandsSo : State → ConnectionHistory → Connection → Type 0
StandsSo state.Looking t k = IsOpenAndIdle t
StandsSo state.Reading t k = IsOpenAndIdle t × IsUnfinished k.inbox × (t.pieces < most_reads)
StandsSo (state.Writing None) t k = IsReplying t k × MayGoOn t.exchanges
StandsSo (state.Writing (Some e)) t k = IsSending e t k × Ends e t k.inbox
StandsSo (state.Ended e) t k = (t.went ≡ told_at e t.exchanges) × Ends e t k.inbox

-- the connection has this history
pub record HasHistory (t : ConnectionHistory) (k : Connection) : Type 0 where
  pub came : t.came ≡ requests_of t.exchanges ++ k.inbox
  pub reading : HaveRead t.exchanges t.pieces k.inbox
  pub whole : All (λ x. IsWholeRequest x.request) t.exchanges
  pub requests : k.requests ≡ length t.exchanges
  pub few : length t.exchanges ≤ most_requests
  pub reads : k.reads ≡ reads_of t
  pub seldom : reads_of t ≤ most_reads
  pub bounded : length k.inbox ≤ most_waiting
  pub below : IsUnfinishedBelow k.least k.inbox
  pub inside : k.sent ≤ length (outgoing_text k.reply)
  pub stands : StandsSo k.state t k
