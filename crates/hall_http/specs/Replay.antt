-- A replay: records of a stream, answered one after another as the requests of a connection are.
use Rattle.std.specs.Prelude.{◌≡◌, ◌≢◌, ◌≤◌, ◌+◌, ◌⊎◌, ℕ, List, [], ◌++◌, length, map, flat_map, All, Option, Some}
use Rattle.std.specs.Prelude.{Result, Ok, Err}
use Rattle.std.specs.Io.KnownBytes.{Appends, Consumes, IsAtEnd}
use Rattle.hall_grid.specs.Device.{MadeCalls}
use Rattle.hall_store.specs.Store.{Content, IsSettled, Leads}
use Rattle.hall_http.specs.Limits.{most_waiting}
use Rattle.hall_http.specs.declared.fault.ReplayFault.{ReplayFault}
use Rattle.hall_http.specs.declared.fault.ReplayFault.TheVariants as fault
use Rattle.hall_http.specs.Device.{WritesPart}
use Rattle.hall_http.specs.Connection.{Exchange}
use Rattle.hall_http.specs.Serving.{AreAnswered, LeavesRunOver, RunsOver}
use Rattle.hall_http.specs.Served.{Line, NoCallFailed, OneReadFailed, OneWriteFailed}
use Rattle.hall_http.specs.Reading.{Reading, IsLastRead}
use Rattle.hall_http.specs.Records.{Record, IsRecord, record_bytes, HasNoRecord, NeverHasRecord, IsUnfinishedRecord}

-- a record, and the bytes that answer it
pub record AnsweredRecord : Type 0 where
  pub asked : Record
  pub reply : List ℕ

-- the record's request, at its moment
abbrev pub exchange_of : AnsweredRecord → Exchange
exchange_of x = record { request = x.asked.request; moment = Some x.asked.moment; reply = x.reply }

-- the requests of these records, each at its moment
abbrev pub exchanges_of_records : List AnsweredRecord → List Exchange
exchanges_of_records xs = map exchange_of xs

-- the bytes of the records
abbrev pub records_of : List AnsweredRecord → List ℕ
records_of xs = flat_map (λ x. record_bytes x.asked) xs

-- the bytes of the replies to these records
abbrev pub reply_bytes_of : List AnsweredRecord → List ℕ
reply_bytes_of xs = flat_map (λ x. x.reply) xs

-- these records were answered, so many reads gave bytes, and these bytes wait
abbrev pub HaveReadRecords : List AnsweredRecord → ℕ → List ℕ → Type 0
HaveReadRecords xs pieces unread =
    Reading {X = AnsweredRecord} (λ x. record_bytes x.asked) IsUnfinishedRecord xs pieces unread

-- what is left isn't empty and no whole record stands at its front: where one read more told the end of the input, or
-- however it goes on
abbrev pub LacksRecord : Option (List ℕ) → List ℕ → ℕ → ℕ → Type 0
LacksRecord after unread pieces reads =
    (unread ≢ [])
    × ((HasNoRecord unread × IsAtEnd after × (reads ≡ pieces + 1)) ⊎ (NeverHasRecord unread × (reads ≡ pieces)))

-- a part of the last reply wasn't written; nothing is read after its record
abbrev pub StopsAtLast : Option (List ℕ) → Option (List ℕ) → List AnsweredRecord → List ℕ → ℕ → Type 0
StopsAtLast wrote written xs unread pieces =
    (before : List AnsweredRecord) × (last : AnsweredRecord) × (between : Option (List ℕ))
    × IsLastRead {X = AnsweredRecord} (λ x. record_bytes x.asked) IsUnfinishedRecord before last xs pieces unread
    × Appends wrote between (reply_bytes_of before) × WritesPart between written last.reply

-- How the replay ended: what was written, and why it ended. `pieces` of its `reads` gave bytes. Well: a read told the
-- end of the input, and nothing is left. `Record`: what is left is no record, or a thousand million reads gave bytes
-- and what is left is unfinished. `Device`: a read or a write failed, once. `Memory`: before the first read. No other
-- call failed: it ended at the first that did.
abbrev pub ReplayEnded : {U : Type 0} → Result U ReplayFault → Line → Line → List AnsweredRecord → List ℕ → ℕ → ℕ
    → Type 0
ReplayEnded (Ok done) old new xs unread pieces reads =
    Appends old.written new.written (reply_bytes_of xs) × NoCallFailed old new × (unread ≡ []) × IsAtEnd new.left
    × (reads ≡ pieces + 1)
ReplayEnded (Err fault.Record) old new xs unread pieces reads =
    Appends old.written new.written (reply_bytes_of xs) × NoCallFailed old new
    × (LacksRecord new.left unread pieces reads
    ⊎ (IsUnfinishedRecord unread × (reads ≡ 1000000000) × (reads ≡ pieces)))
ReplayEnded (Err fault.Device) old new xs unread pieces reads =
    (Appends old.written new.written (reply_bytes_of xs) × OneReadFailed old new × IsUnfinishedRecord unread
    × (reads ≡ pieces + 1))
    ⊎ (StopsAtLast old.written new.written xs unread pieces × OneWriteFailed old new × (reads ≡ pieces))
ReplayEnded (Err fault.Memory) old new xs unread pieces reads =
    Appends old.written new.written [] × NoCallFailed old new × (xs ≡ []) × (unread ≡ []) × (reads ≡ 0)

-- the stream was read, in at most a thousand million reads, as these records and then this rest, the records were
-- answered over a store, each before a further read and over the store that the one before it left, by the replies of a
-- run of the hall, and the replay ended so
pub record IsReplayed {H U : Type 0} (content : H → Content) (old : Line) (before : H) (new : Line) (after : H)
    (end : Result U ReplayFault) : Type 0 where
  pub records : List AnsweredRecord
  pub unread : List ℕ
  pub pieces : ℕ
  pub reads : ℕ
  pub settled : IsSettled (content before)
  pub answered : AreAnswered content before (exchanges_of_records records) after
  pub whole : All (λ x. IsRecord x.asked) records
  pub leads : Leads (content before) (content after)
  pub run : (content after).honest → RunsOver (content before) (exchanges_of_records records) (content after)
  pub stops : LeavesRunOver (content before) (exchanges_of_records records) (content after)
  pub seldom : reads ≤ 1000000000
  pub made : MadeCalls reads old.reads new.reads
  pub reading : HaveReadRecords records pieces unread
  pub consumed : Consumes old.left new.left (records_of records ++ unread)
  pub bounded : length unread ≤ most_waiting
  pub ended : ReplayEnded end old new records unread pieces reads
