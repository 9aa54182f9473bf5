-- The replies of the hall: a status and a JSON body, as bytes.
use Rattle.std.specs.Prelude.{◌≡◌, ◌≤◌, ⊤, ℕ, ℤ, Bool, ◌==◌, ◌++◌, List, [], map, if◌then◌else◌, Option, Some, None}
use Rattle.std.specs.Prelude.{codes}
use Rattle.std.specs.Prelude.{decimal, length}
use Rattle.serde_json.specs.Data.{Data, null, boolean, number, string, object, array, Members, no_members}
use Rattle.serde_json.specs.Data.{member}
use Rattle.serde_json.specs.View.{items_of}
use Rattle.serde_json.specs.Find.{of_integer}
use Rattle.serde_json.specs.Written.{compact_text}
use Rattle.hall_policy.specs.World.{ruling_points}
use Rattle.hall_policy.specs.declared.record.PuzzleKey.{PuzzleKey}
use Rattle.hall_policy.specs.declared.record.Mode.{Mode}
use Rattle.hall_policy.specs.declared.record.Mode.TheVariants.{Instant, Sealed}
use Rattle.hall_policy.specs.declared.record.Ruling.{Ruling}
use Rattle.hall_policy.specs.declared.record.Ruling.TheVariants.{Upheld, Rejected}
use Rattle.hall_desk.specs.declared.reply.StateName.{StateName}
use Rattle.hall_desk.specs.declared.reply.StateName.TheVariants as state
use Rattle.hall_desk.specs.declared.reply.ShownPuzzle.{ShownPuzzle}
use Rattle.hall_desk.specs.declared.reply.ShownRound.{ShownRound}
use Rattle.hall_desk.specs.declared.reply.ProtestLine.{ProtestLine}
use Rattle.hall_desk.specs.declared.reply.PuzzleLine.{PuzzleLine}
use Rattle.hall_desk.specs.declared.reply.RoundLine.{RoundLine}
use Rattle.hall_desk.specs.declared.reply.Reply.{Reply}
use Rattle.hall_desk.specs.declared.reply.Reply.TheVariants as reply
use Rattle.hall_desk.specs.ListedAnswers.{text_member, number_member, verdict_member, answers_data}
use Rattle.hall_sheet.specs.Fault.{field_name}
use Rattle.hall_sheet.specs.declared.fault.Refusal.{Refusal}
use Rattle.hall_sheet.specs.declared.fault.Refusal.TheVariants as refusal
use Rattle.hall_http.specs.declared.form.Field.{Field}
use Rattle.hall_http.specs.declared.form.Field.TheVariants as field
use Rattle.hall_http.specs.declared.form.PuzzleFault.{PuzzleFault}
use Rattle.hall_http.specs.declared.form.PuzzleFault.TheVariants as puzzle
use Rattle.hall_http.specs.declared.form.FormFault.{FormFault}
use Rattle.hall_http.specs.declared.form.FormFault.TheVariants as fault
use Rattle.hall_http.specs.declared.status.Status.{Status}
use Rattle.hall_http.specs.declared.status.Status.TheVariants as status
use Rattle.hall_http.specs.declared.status.MediaType.{MediaType}
use Rattle.hall_http.specs.declared.status.MediaType.TheVariants as media

-- the code of a status, and its reason
abbrev pub status_words : Status → List ℕ
status_words status.Ok = codes "200 OK"
status_words status.BadRequest = codes "400 Bad Request"
status_words status.Forbidden = codes "403 Forbidden"
status_words status.NotFound = codes "404 Not Found"
status_words status.Unavailable = codes "503 Service Unavailable"

-- the name of a type of bodies
abbrev pub media_words : MediaType → List ℕ
media_words media.Plain = codes "text/plain"
media_words media.Json = codes "application/json"

-- the status line, and the type of the body
abbrev pub head_bytes : Status → MediaType → List ℕ
head_bytes s m = codes "HTTP/1.1 " ++ (status_words s ++ (codes "\r\nContent-Type: " ++ media_words m))

-- the status line, two header lines, an empty line and the body
abbrev pub wire_bytes : Status → MediaType → List ℕ → List ℕ
wire_bytes s m body =
    head_bytes s m ++ ((codes "\r\nContent-Length: " ++ (decimal (length body) ++ codes "\r\n\r\n")) ++ body)

-- what a puzzle's state is called
abbrev pub state_text : StateName → List ℕ
state_text state.New = codes "new"
state_text state.One = codes "one"
state_text state.NoSolution = codes "none"
state_text state.More = codes "more"
state_text state.GaveUp = codes "gave up"

-- what a round's mode is called
abbrev pub mode_text : Mode → List ℕ
mode_text Instant = codes "instant"
mode_text Sealed = codes "sealed"

-- a member that is true or false, before further members
abbrev pub flag_member : List ℕ → Bool → Members → Members
flag_member name flag more = member name (boolean flag) more

-- {"added":N}
abbrev pub import_data : ℕ → Data
import_data added = object (number_member (codes "added") added no_members)

-- {"state":S,"text":T}
abbrev pub put_puzzle_data : StateName → List ℕ → Data
put_puzzle_data s text =
    object (text_member (codes "state") (state_text s) (text_member (codes "text") text no_members))

-- the members of a puzzle that its author and label name, before further members
abbrev pub key_members : PuzzleKey → Members → Members
key_members key more = text_member (codes "author") key.author (text_member (codes "label") key.label more)

-- {"author":A,"label":L,"state":S,"text":T}
abbrev pub read_puzzle_data : PuzzleKey → StateName → List ℕ → Data
read_puzzle_data key s text =
    object (key_members key (text_member (codes "state") (state_text s) (text_member (codes "text") text no_members)))

-- {"author":A,"label":L,"state":S}
abbrev pub listed_puzzle_data : PuzzleLine → Data
listed_puzzle_data line =
    object (key_members line.key (text_member (codes "state") (state_text line.state) no_members))

-- {"puzzles":[P,..]}
abbrev pub list_puzzles_data : List PuzzleLine → Data
list_puzzles_data lines = object (member (codes "puzzles") (array (items_of (map listed_puzzle_data lines))) no_members)

-- {"state":S}
abbrev pub certify_data : StateName → Data
certify_data s = object (text_member (codes "state") (state_text s) no_members)

-- {"round":R}
abbrev pub put_round_data : List ℕ → Data
put_round_data id = object (text_member (codes "round") id no_members)

-- {"released":R}
abbrev pub release_data : List ℕ → Data
release_data id = object (text_member (codes "released") id no_members)

-- a listed round's members in the order of their names, the last being its title
abbrev pub listed_round_data : RoundLine → Data
listed_round_data r = object (
    text_member (codes "id") r.id (
    number_member (codes "minutes") r.minutes (
    text_member (codes "mode") (mode_text r.mode) (
    flag_member (codes "published") r.published (
    flag_member (codes "released") r.released (
    number_member (codes "start") r.start (
    text_member (codes "title") r.title no_members)))))))

-- {"rounds":[R,..]}
abbrev pub list_rounds_data : List RoundLine → Data
list_rounds_data lines = object (member (codes "rounds") (array (items_of (map listed_round_data lines))) no_members)

-- {"number":N,"points":N,"text":T}
abbrev pub puzzle_data : ShownPuzzle → Data
puzzle_data p =
    let text = text_member (codes "text") p.text no_members in
    object (number_member (codes "number") p.number (number_member (codes "points") p.points text))

-- the round's members in the order of their names, the last being its title
abbrev pub read_round_data : ShownRound → Data
read_round_data r = object (
    number_member (codes "bonus") r.bonus (
    text_member (codes "id") r.id (
    number_member (codes "minutes") r.minutes (
    text_member (codes "mode") (mode_text r.mode) (
    number_member (codes "penalty") r.penalty (
    number_member (codes "protest_minutes") r.protest_minutes (
    member (codes "puzzles") (array (items_of (map puzzle_data r.puzzles))) (
    number_member (codes "start") r.start (
    text_member (codes "title") r.title no_members)))))))))

-- {"received":N,"verdict":V}
abbrev pub submit_data : ℕ → Option ℕ → Data
submit_data n verdict = object (number_member (codes "received") n (verdict_member verdict))

-- {"solutions":[T,..]}
abbrev pub solutions_data : List (List ℕ) → Data
solutions_data texts = object (member (codes "solutions") (array (items_of (map string texts))) no_members)

-- {"protest":K}
abbrev pub protest_data : List ℕ → Data
protest_data token = object (text_member (codes "protest") token no_members)

-- what a ruling is called, and an open protest
abbrev pub ruling_text : Option Ruling → List ℕ
ruling_text None = codes "open"
ruling_text (Some (Upheld points)) = codes "upheld"
ruling_text (Some Rejected) = codes "rejected"

-- a member that is a whole number, before further members
abbrev pub integer_member : List ℕ → ℤ → Members → Members
integer_member name n more = member name (number (of_integer n)) more

-- a protest's members in the order of their names, the last being its token
abbrev pub listed_protest_data : ProtestLine → Data
listed_protest_data p = object (
    text_member (codes "entrant") p.entrant (
    number_member (codes "number") p.number (
    integer_member (codes "points") (ruling_points p.ruling) (
    text_member (codes "ruling") (ruling_text p.ruling) (
    text_member (codes "text") p.text (
    text_member (codes "token") p.token no_members))))))

-- {"protests":[P,..]}
abbrev pub protests_data : List ProtestLine → Data
protests_data lines = object (member (codes "protests") (array (items_of (map listed_protest_data lines))) no_members)

-- {"points":N,"ruled":U}
abbrev pub rule_protest_data : Ruling → Data
rule_protest_data ruling = object (
    integer_member (codes "points") (ruling_points (Some ruling)) (
    text_member (codes "ruled") (ruling_text (Some ruling)) no_members))

-- {"published":R}
abbrev pub publish_data : List ℕ → Data
publish_data id = object (text_member (codes "published") id no_members)

-- {"denied":K}
abbrev pub denied_data : ℕ → Data
denied_data rule = object (number_member (codes "denied") rule no_members)

-- {"fault":"hall"}
abbrev pub unavailable_data : Data
unavailable_data = object (text_member (codes "fault") (codes "hall") no_members)

-- the JSON of a reply's body; a table has none
abbrev pub reply_data : Reply → Data
reply_data (reply.Denied rule) = denied_data rule
reply_data reply.Unavailable = unavailable_data
reply_data (reply.Import added) = import_data added
reply_data (reply.PutPuzzle s text) = put_puzzle_data s text
reply_data (reply.ReadPuzzle key s text) = read_puzzle_data key s text
reply_data (reply.ListPuzzles lines) = list_puzzles_data lines
reply_data (reply.Certify s) = certify_data s
reply_data (reply.PutRound id) = put_round_data id
reply_data (reply.Release id) = release_data id
reply_data (reply.ListRounds lines) = list_rounds_data lines
reply_data (reply.ReadRound round) = read_round_data round
reply_data (reply.Submit n verdict) = submit_data n verdict
reply_data (reply.Answers lines) = answers_data lines
reply_data (reply.Solutions texts) = solutions_data texts
reply_data (reply.Protest token) = protest_data token
reply_data (reply.Protests lines) = protests_data lines
reply_data (reply.RuleProtest ruling) = rule_protest_data ruling
reply_data (reply.Publish id) = publish_data id
reply_data (reply.Table text) = null

-- 404 where the object isn't there, 403 for any other denial
abbrev pub denied_status : ℕ → Status
denied_status rule = if rule == 4 then status.NotFound else status.Forbidden

-- the status of a reply
abbrev pub reply_status : Reply → Status
reply_status (reply.Denied rule) = denied_status rule
reply_status reply.Unavailable = status.Unavailable
reply_status _ = status.Ok

-- the member that a fault names
abbrev pub field_text : Field → List ℕ
field_text field.Answer = codes "answer"
field_text field.Text = codes "text"
field_text field.Budget = codes "budget"
field_text field.Number = codes "number"
field_text field.Points = codes "points"
field_text field.Upheld = codes "upheld"

-- {"form":F}
abbrev pub form_data : List ℕ → Data
form_data form = object (text_member (codes "form") form no_members)

-- {"field":"text","form":F}
abbrev pub field_data : List ℕ → List ℕ → Data
field_data field form = object (text_member (codes "field") field (text_member (codes "form") form no_members))

-- {"form":E,"place":N}
abbrev pub place_data : List ℕ → ℕ → Data
place_data form place = object (text_member (codes "form") form (number_member (codes "place") place no_members))

-- the body of the reply to a text that is no puzzle
abbrev pub puzzle_fault_data : PuzzleFault → Data
puzzle_fault_data puzzle.Kind = form_data (codes "E2")
puzzle_fault_data puzzle.SizeField = form_data (codes "E3")
puzzle_fault_data puzzle.SizeLimit = form_data (codes "E4")
puzzle_fault_data (puzzle.Strange place) = place_data (codes "E5") place
puzzle_fault_data (puzzle.Cut place) = place_data (codes "E6") place
puzzle_fault_data (puzzle.Range place) = place_data (codes "E7") place
puzzle_fault_data (puzzle.After place) = place_data (codes "E8") place

-- the body of the reply to bytes that are no entry list or round sheet
abbrev pub sheet_fault_data : Refusal → Data
sheet_fault_data refusal.Syntax = form_data (codes "F1")
sheet_fault_data (refusal.Missing f) = field_data (field_name f) (codes "F2")
sheet_fault_data (refusal.Range f) = field_data (field_name f) (codes "F3")
sheet_fault_data refusal.Repeated = form_data (codes "F4")
sheet_fault_data refusal.Start = form_data (codes "F5")
sheet_fault_data refusal.Zone = field_data (codes "zone") (codes "F8")

-- the body of the reply to bytes that are no request
abbrev pub fault_data : FormFault → Data
fault_data fault.Syntax = form_data (codes "F1")
fault_data (fault.Missing f) = field_data (field_text f) (codes "F2")
fault_data (fault.Range f) = field_data (field_text f) (codes "F3")
fault_data (fault.Puzzle found) = puzzle_fault_data found
fault_data (fault.Sheet r) = sheet_fault_data r
fault_data fault.NoRoute = form_data (codes "F6")
fault_data fault.NotWhole = form_data (codes "F7")

-- 404 where nothing is served, else 400
abbrev pub fault_status : FormFault → Status
fault_status fault.NoRoute = status.NotFound
fault_status _ = status.BadRequest

-- the reply is told in JSON, and made for it: all are but those whose text or bytes stand ready
abbrev pub IsJson : Reply → Type 0
IsJson (reply.Table text) = ⊥
IsJson (reply.Answers lines) = ⊥
IsJson reply.Unavailable = ⊥
IsJson given = ⊤

-- the bytes of a reply: a table is plain text, all else is JSON
abbrev pub BytesOf : Reply → List ℕ → Type 0
BytesOf (reply.Table text) bytes = bytes ≡ wire_bytes status.Ok media.Plain text
BytesOf given bytes = bytes ≡ wire_bytes (reply_status given) media.Json (compact_text (reply_data given))

-- the text that a reply brings along, to stand behind the front of its bytes: that of a listing of answers
abbrev pub text_behind : Reply → List ℕ
text_behind (reply.Answers lines) = compact_text (answers_data lines)
text_behind _ = []

-- where the reply brings a text along, it has no more bytes behind this front than can be counted
abbrev pub IsCounted : Reply → List ℕ → Type 0
IsCounted (reply.Answers lines) front = length (front ++ compact_text (answers_data lines)) ≤ 18446744073709551615
IsCounted _ front = ⊤

-- the bytes of the reply to bytes that are no request
abbrev pub FaultBytesOf : FormFault → List ℕ → Type 0
FaultBytesOf found bytes = bytes ≡ wire_bytes (fault_status found) media.Json (compact_text (fault_data found))
