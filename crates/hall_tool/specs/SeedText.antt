-- What an entry list that stands before any request makes of a world, what is written of it, and the exit status.
use Rattle.std.specs.Prelude.{◌≡◌, ◌≤◌, ◌⊎◌, ℕ, ⊤, List, [], ◌++◌, codes, decimal, Ok, Err}
use Rattle.hall_policy.specs.declared.record.Person.{Person}
use Rattle.hall_store.specs.Store.{Content, Kept, LeavesNoOther}
use Rattle.hall_desk.specs.Plans.{Seeds, SeedCanFail, StopsInSeed}
use Rattle.hall_desk.specs.declared.reply.Reply.{Reply}
use Rattle.hall_desk.specs.declared.reply.Reply.TheVariants as reply
use Rattle.hall_sheet.specs.Fault.{refusal_text}
use Rattle.hall_sheet.specs.People.{people_in}
use Rattle.hall_tool.specs.declared.seed.Seeded.{Seeded}
use Rattle.hall_tool.specs.declared.seed.Seeded.TheVariants.{Refused, Denied, Added}
use Rattle.hall_tool.specs.JudgeText.{on_own_line, refusal_of}

-- the list spells people, and where the device was honest, the desk answered their import so
abbrev pub IsListAnswered : List ℕ → Content → Content → Reply → Type 0
IsListAnswered list old new given =
    (people : List Person) × (people_in list ≡ Ok people) × (new.honest → Seeds old people given new)

-- this came of the list: its first fault, which leaves the world, or what the desk answered; a denial makes no write
abbrev pub IsSeeded : List ℕ → Content → Content → Seeded → Type 0
IsSeeded list old new (Refused refusal) = (people_in list ≡ Err refusal) × Kept old new
IsSeeded list old new (Denied rule) = IsListAnswered list old new (reply.Denied rule) × (new.writes ≤ old.writes)
IsSeeded list old new (Added count) = IsListAnswered list old new (reply.Import count)

-- the list's import may be refused for another cause than being out of memory
abbrev pub ListCanFail : List ℕ → Content → Content → Type 0
ListCanFail list old new = (people : List Person) × (people_in list ≡ Ok people) × SeedCanFail people old new

-- What a stop in the import of a list, or after it, leaves: what is left in the import of the people that it spells, so
-- all of them or none; or a world that a stop before it could leave.
abbrev pub StopsInList : List ℕ → Content → Content → Type 0
StopsInList list old new =
    ((people : List Person) × (people_in list ≡ Ok people) × StopsInSeed old people new) ⊎ LeavesNoOther old new

-- so the desk answered a list that came to this
abbrev pub IsToldBy : Reply → Seeded → Type 0
IsToldBy given (Refused refusal) = ⊥
IsToldBy given (Denied rule) = given ≡ reply.Denied rule
IsToldBy given (Added count) = given ≡ reply.Import count

-- the list was refused or denied
abbrev pub AddsNobody : Seeded → Type 0
AddsNobody (Refused refusal) = ⊤
AddsNobody (Denied rule) = ⊤
AddsNobody (Added count) = ⊥

-- a denial on a line of its own
abbrev pub denial_of : ℕ → List ℕ
denial_of rule = codes "denied " ++ on_own_line (decimal rule)

-- a refusal or denial as it is written; of an import nothing is
abbrev pub seeded_line : Seeded → List ℕ
seeded_line (Refused refusal) = refusal_of (refusal_text refusal)
seeded_line (Denied rule) = denial_of rule
seeded_line (Added count) = []

-- 0 for an import, 2 for a refusal or denial
abbrev pub seeded_status : Seeded → ℕ
seeded_status (Refused refusal) = 2
seeded_status (Denied rule) = 2
seeded_status (Added count) = 0

-- what came of the list, as it is written, and the exit status
abbrev pub SeedText : List ℕ → Content → Content → List ℕ → ℕ → Type 0
SeedText list old new line status =
    (seeded : Seeded) × IsSeeded list old new seeded × (line ≡ seeded_line seeded) × (status ≡ seeded_status seeded)
