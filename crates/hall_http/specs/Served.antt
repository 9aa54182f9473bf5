-- What serving one connection does.
use Rattle.std.specs.Prelude.{◌≡◌, ◌≢◌, ◌<◌, ◌≤◌, ◌+◌, ◌⊎◌, ℕ, List, [], ◌++◌, length, Option, All}
use Rattle.std.specs.Io.KnownBytes.{Appends, Consumes, IsAtEnd}
use Rattle.serde_json.specs.Written.{compact_text}
use Rattle.hall_grid.specs.Device.{MadeCalls, Tally}
use Rattle.hall_store.specs.Store.{Content, IsSettled, Leads}
use Rattle.hall_http.specs.Limits.{most_reads, most_requests, most_waiting}
use Rattle.hall_http.specs.Head.{IsWholeRequest, IsUnfinished, NeverHas}
use Rattle.hall_http.specs.Reading.{Reading, IsLastRead}
use Rattle.hall_http.specs.Device.{WritesPart, NoneFailed, ReadFailed, WriteFailed}
use Rattle.hall_http.specs.Connection.{Exchange, Session, AreMoments, requests_of, replies_of, AreOpen, IsClosing}
use Rattle.hall_http.specs.Serving.{AreAnswered, LeavesRunOver, RunsOver}
use Rattle.hall_http.specs.Reply.{wire_bytes, fault_status, fault_data}
use Rattle.hall_http.specs.declared.form.FormFault.TheVariants as fault
use Rattle.hall_http.specs.declared.status.MediaType.TheVariants as media
use Rattle.hall_http.specs.declared.connection.ServeEnd.{ServeEnd}
use Rattle.hall_http.specs.declared.connection.ServeEnd.TheVariants as end

-- the reply to bytes that are no request
abbrev pub refusal : List ℕ
refusal = wire_bytes (fault_status fault.NotWhole) media.Json (compact_text (fault_data fault.NotWhole))

-- these requests were answered, so many reads gave bytes, and these bytes wait
abbrev pub HaveRead : List Exchange → ℕ → List ℕ → Type 0
HaveRead xs pieces unread = Reading {X = Exchange} (λ x. x.request) IsUnfinished xs pieces unread

-- the last of these requests was answered after the last read
abbrev pub IsLastRequest : List Exchange → Exchange → List Exchange → ℕ → List ℕ → Type 0
IsLastRequest before last xs pieces unread =
    IsLastRead {X = Exchange} (λ x. x.request) IsUnfinished before last xs pieces unread

-- no request can be made of the bytes: some are left where one read more told the end of the input; or however they go
-- on
abbrev pub IsNoRequest : Option (List ℕ) → List ℕ → ℕ → ℕ → Type 0
IsNoRequest after unread pieces reads =
    ((unread ≢ []) × IsUnfinished unread × IsAtEnd after × (reads ≡ pieces + 1)) ⊎ (NeverHas unread × (reads ≡ pieces))

-- the connection stays open after each of these requests, and a further one may come
abbrev pub MayGoOn : List Exchange → Type 0
MayGoOn xs = AreOpen xs × (length xs < most_requests)

-- the connection closes after the last request, and after none before it; nothing is read after it
abbrev pub ClosesLast : List Exchange → List ℕ → ℕ → Type 0
ClosesLast xs unread pieces =
    (before : List Exchange) × (last : Exchange) × IsLastRequest before last xs pieces unread × AreOpen before
    × IsClosing last.request

-- 1,000 requests were answered, and nothing was read after the last
abbrev pub HasAnsweredAll : List Exchange → List ℕ → ℕ → Type 0
HasAnsweredAll xs unread pieces =
    (length xs ≡ most_requests)
    × ((before : List Exchange) × (last : Exchange) × IsLastRequest before last xs pieces unread)

-- a part of the last reply wasn't written; nothing is read after its request
abbrev pub BreaksLast : Option (List ℕ) → Option (List ℕ) → List Exchange → List ℕ → ℕ → Type 0
BreaksLast wrote written xs unread pieces =
    (before : List Exchange) × (last : Exchange) × (between : Option (List ℕ))
    × IsLastRequest before last xs pieces unread × AreOpen before × Appends wrote between (replies_of before)
    × WritesPart between written last.reply

-- a part of the reply to bytes that are no request wasn't written
abbrev pub BreaksRefusal : Option (List ℕ) → Option (List ℕ) → List Exchange → Type 0
BreaksRefusal wrote written xs =
    (between : Option (List ℕ)) × MayGoOn xs × Appends wrote between (replies_of xs)
    × WritesPart between written refusal

-- how the two sides of a connection stand: what is left to be read, how many reads were made, and how many failed; what
-- was written, and how many writes failed
pub record Line : Type 0 where
  pub left : Option (List ℕ)
  pub reads : ℕ
  pub failed : ℕ
  pub written : Option (List ℕ)
  pub broken : ℕ

-- those of a reader and a writer
abbrev pub line : {R W : Type 0} → (R → Option (List ℕ)) → (W → Option (List ℕ)) → Tally R → Tally W → Line
line remaining contents reader writer = record {
  left = remaining reader.device;
  reads = reader.calls;
  failed = reader.failures;
  written = contents writer.device;
  broken = writer.failures;
}

-- no call failed in the meantime
abbrev pub NoCallFailed : Line → Line → Type 0
NoCallFailed old new = NoneFailed old.failed new.failed old.broken new.broken

-- one read failed in the meantime, and no other call
abbrev pub OneReadFailed : Line → Line → Type 0
OneReadFailed old new = ReadFailed old.failed new.failed old.broken new.broken

-- one write failed in the meantime, and no other call
abbrev pub OneWriteFailed : Line → Line → Type 0
OneWriteFailed old new = WriteFailed old.failed new.failed old.broken new.broken

-- How the connection ended: what was written, and why it ended. `pieces` of its `reads` gave bytes. `Closed`: a read
-- told the end of the input and nothing is left, or the last request closes. `BadHead`: what is left is no request.
-- `Limit`: 1,000 requests were answered and nothing was read after; or 100,000 reads gave bytes, and what is left is
-- unfinished. `Device`: a read or a write failed, once. No other call failed: it ended at the first that did.
abbrev pub ConnectionEnded : ServeEnd → Line → Line → List Exchange → List ℕ → ℕ → ℕ → Type 0
ConnectionEnded end.Closed old new xs unread pieces reads =
    Appends old.written new.written (replies_of xs) × NoCallFailed old new
    × ((MayGoOn xs × (unread ≡ []) × IsAtEnd new.left × (reads ≡ pieces + 1))
    ⊎ (ClosesLast xs unread pieces × (reads ≡ pieces)))
ConnectionEnded end.BadHead old new xs unread pieces reads =
    Appends old.written new.written (replies_of xs ++ refusal) × NoCallFailed old new × MayGoOn xs
    × IsNoRequest new.left unread pieces reads
ConnectionEnded end.Limit old new xs unread pieces reads =
    Appends old.written new.written (replies_of xs) × NoCallFailed old new × AreOpen xs × (reads ≡ pieces)
    × (HasAnsweredAll xs unread pieces ⊎ ((length xs < most_requests) × (reads ≡ most_reads) × IsUnfinished unread))
ConnectionEnded end.Device old new xs unread pieces reads =
    (Appends old.written new.written (replies_of xs) × OneReadFailed old new × MayGoOn xs × IsUnfinished unread
    × (reads ≡ pieces + 1))
    ⊎ (BreaksLast old.written new.written xs unread pieces × OneWriteFailed old new × (reads ≡ pieces))
    ⊎ (BreaksRefusal old.written new.written xs × OneWriteFailed old new × IsNoRequest new.left unread pieces reads)

-- the stream was read, in at most 100,000 reads, as at most 1,000 requests and then this rest, a responder answered the
-- requests at the clock's moments, each before a further read, and the connection ended so
pub record IsHandled {H C : Type 0} (answers : H → Option ℕ → List ℕ → List ℕ → H → Type 0)
    (now_gives : C → Option ℕ → C → Type 0) (old : Line) (before : H × C) (new : Line) (after : H × C)
    (end : ServeEnd) : Type 0 where
  pub exchanges : List Exchange
  pub unread : List ℕ
  pub pieces : ℕ
  pub reads : ℕ
  pub session : Session answers before.0 exchanges after.0
  pub whole : All (λ x. IsWholeRequest x.request) exchanges
  pub moments : AreMoments now_gives before.1 exchanges after.1
  pub few : length exchanges ≤ most_requests
  pub seldom : reads ≤ most_reads
  pub made : MadeCalls reads old.reads new.reads
  pub reading : HaveRead exchanges pieces unread
  pub consumed : Consumes old.left new.left (requests_of exchanges ++ unread)
  pub bounded : length unread ≤ most_waiting
  pub ended : ConnectionEnded end old new exchanges unread pieces reads

-- The stream was read, in at most 100,000 reads, as at most 1,000 requests and then this rest, the requests were
-- answered over a store at the clock's moments, each before a further read and over the store that the one before it
-- left, by the replies of a run of the hall, and the connection ended so.
pub record IsServed {H C : Type 0} (content : H → Content) (now_gives : C → Option ℕ → C → Type 0) (old : Line)
    (before : H × C) (new : Line) (after : H × C) (end : ServeEnd) : Type 0 where
  pub exchanges : List Exchange
  pub unread : List ℕ
  pub pieces : ℕ
  pub reads : ℕ
  pub settled : IsSettled (content before.0)
  pub answered : AreAnswered content before.0 exchanges after.0
  pub whole : All (λ x. IsWholeRequest x.request) exchanges
  pub moments : AreMoments now_gives before.1 exchanges after.1
  pub leads : Leads (content before.0) (content after.0)
  pub run : (content after.0).honest → RunsOver (content before.0) exchanges (content after.0)
  pub stops : LeavesRunOver (content before.0) exchanges (content after.0)
  pub few : length exchanges ≤ most_requests
  pub seldom : reads ≤ most_reads
  pub made : MadeCalls reads old.reads new.reads
  pub reading : HaveRead exchanges pieces unread
  pub consumed : Consumes old.left new.left (requests_of exchanges ++ unread)
  pub bounded : length unread ≤ most_waiting
  pub ended : ConnectionEnded end old new exchanges unread pieces reads
