-- Acknowledged means kept, across restarts: of whatever a byte of the reply was sent, a later open finds it, and the
-- same bytes, sent again, are told the same.
use Rattle.std.specs.Prelude.{◌≡◌, ◌⊎◌, ℕ, List, ◌∷◌, ◌++◌, Contains}
use Rattle.hall_policy.specs.World.{World}
use Rattle.hall_store.specs.Store.{Content, IsSettled}
use Rattle.hall_http.specs.Answered.{IsUnavailable}
use Rattle.hall_http.specs.Connection.{Exchange}
use Rattle.hall_http.specs.Crowd.{IsHereOrGone, Past, traffic_past}
use Rattle.hall_http.specs.Groups.{AreAnsweredInGroups}
use Rattle.hall_http.specs.Peer.{Traffic}
use Rattle.hall_http.specs.Turns.{Turn, exchanges_of, of}
use Rattle.hall_http.specs.declared.client.Step.{Step}
use Rattle.hall_laws.specs.Accepted.{IsAnswerAccepted, AnswerStands, IsProtestAccepted, ProtestStands}
use Rattle.hall_laws.specs.Accepted.{IsRepeatedAlike}
use Rattle.hall_laws.specs.Happened.{HasLeftRecords, IsKeptIn}
use Rattle.hall_laws.specs.Order.{IsHeardAt}
use Rattle.hall_laws.specs.Sent.{IsByteOfRefusal, IsByteOfReply}
use Rattle.hall_laws.specs.Servings.{Lasts, Serving, WasSent}

-- Each byte that a connection was sent, when these requests of all were answered, is one of the reply to one of its
-- own, or to bytes that are no request; and where that reply isn't 503, its request is kept in the world that is left.
abbrev pub EachByteIsKept : World → List Turn → Traffic → World → Type 0
EachByteIsKept world turns t left =
    (sent : List ℕ) (byte : ℕ) (more : List ℕ) → t.went ≡ sent ++ byte ∷ more
    → ((x : Exchange) × IsByteOfReply (of t.number turns) sent byte x
    × (¬ (IsUnavailable x.reply) → IsKeptIn world turns (t.number, x) left))
    ⊎ IsByteOfRefusal (of t.number turns) sent byte

-- so it is of what each connection was sent in a serving, and of each world that a later open may find
abbrev pub BytesAreKept : {H P : Type 0} → (H → Content) → (P → Traffic) → Type 0
BytesAreKept {H} {P} content traffic =
    (world left : World) (serving : Serving content traffic world left) (one : Past P) → Contains serving.gone one
    → ∥ EachByteIsKept world serving.served.turns (traffic_past traffic one) left ∥₁

-- So it is at each turn of which the sockets heard: by a store that served before these requests, and that the first of
-- them had led to by then, of all that had been sent by then to a connection that is here or has gone.
abbrev pub BytesAreKeptSoFar : {H P : Type 0} → (H → Content) → (P → Traffic) → Type 0
BytesAreKeptSoFar {H} {P} content traffic =
    (over : (H × H) × List (Past P)) (few : ℕ) (all : List Turn) (told : ℕ × Step) (before after : H) (left : World)
    (t : Traffic) → (at : IsHeardAt content traffic over few all told) → IsSettled (content before)
    → (content before).serves → AreAnsweredInGroups content before (exchanges_of at.turns) after
    → (content after).honest → (content after).may_leave left → IsHereOrGone traffic at.rightly.clients t
    → EachByteIsKept (content before).world at.turns t left

-- Of a request of whose reply a byte was sent, and whose reply isn't 503, the records stand in each world that is found
-- later, however often the hall was stopped and served since.
abbrev pub RecordsAreKept : {H P : Type 0} → (H → Content) → (P → Traffic) → Type 0
RecordsAreKept content traffic =
    (world left later : World) (serving : Serving content traffic world left) (x : Exchange) → WasSent serving x
    → ¬ (IsUnavailable x.reply) → Lasts content traffic left later
    → ∥ HasLeftRecords world (exchanges_of serving.served.turns) x later ∥₁

-- whoever sends these bytes again in a serving that begins with the world is told the same, or 503, and adds nothing
abbrev pub AreRepeatedAlike : {H P : Type 0} → (H → Content) → (P → Traffic) → Exchange → World → Type 0
AreRepeatedAlike content traffic x world =
    (left : World) (serving : Serving content traffic world left) (front rest : List Exchange) (y : Exchange)
    → exchanges_of serving.served.turns ≡ front ++ y ∷ rest → y.request ≡ x.request → IsRepeatedAlike x world front y

-- An answer of which a byte of the reply 200 was sent stands in each such world; and its bytes, sent again, are told
-- the same there, or 503, and add nothing.
abbrev pub AnswersAreKept : {H P : Type 0} → (H → Content) → (P → Traffic) → Type 0
AnswersAreKept content traffic =
    (world left later : World) (serving : Serving content traffic world left) (x : Exchange) → WasSent serving x
    → (is : IsAnswerAccepted x) → Lasts content traffic left later
    → ∥ (AnswerStands x is later × AreRepeatedAlike content traffic x later) ∥₁

-- so does a protest
abbrev pub ProtestsAreKept : {H P : Type 0} → (H → Content) → (P → Traffic) → Type 0
ProtestsAreKept content traffic =
    (world left later : World) (serving : Serving content traffic world left) (x : Exchange) → WasSent serving x
    → (is : IsProtestAccepted x) → Lasts content traffic left later
    → ∥ (ProtestStands x is later × AreRepeatedAlike content traffic x later) ∥₁

-- Within one serving: of the requests that were answered after such an answer or protest, those of the same bytes were
-- told the same, or 503, and added nothing.
abbrev pub AreRepeatedAlikeMeanwhile : {H P : Type 0} → (H → Content) → (P → Traffic) → (Exchange → Type 0) → Type 0
AreRepeatedAlikeMeanwhile content traffic IsAccepted =
    (world left : World) (serving : Serving content traffic world left) (before between after : List Exchange)
    (x y : Exchange) → exchanges_of serving.served.turns ≡ (before ++ x ∷ between) ++ y ∷ after → IsAccepted x
    → y.request ≡ x.request → IsRepeatedAlike x world (before ++ x ∷ between) y
