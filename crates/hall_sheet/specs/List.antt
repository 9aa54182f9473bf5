-- An entry list that is read row by row: the rows that are left, and the people so far.
use Rattle.std.specs.Prelude.{◌≡◌, ◌⊎◌, ◌<◌, nat_lt, ℕ, List, [], ◌∷◌, ◌++◌, length, false, Option, Some, None}
use Rattle.std.specs.Prelude.{Result, Ok, Err}
use Rattle.std.specs.Borrow.{Bor}
use Rattle.csv.specs.Machine.{ends_at_end}
use Rattle.csv.specs.Reading.{default_config, records_from, source_of, reader_config, reader_state, reader_trim, Ready}
use Rattle.csv.specs.Reading.{owned_rows_reader, owned_rows_left}
use Rattle.csv.specs.Records.{Row, fields_of}
use Rattle.csv.specs.declared.iter.ByteRecordsIntoIter.{ByteRecordsIntoIter}
use Rattle.csv.specs.declared.reader.Trim.TheVariants as trim
use Rattle.hall_policy.specs.Limits.{most_people}
use Rattle.hall_policy.specs.Lists.{ArePeople}
use Rattle.hall_policy.specs.Reading.{◌>>=◌, unless}
use Rattle.hall_policy.specs.declared.record.Person.{Person}
use Rattle.hall_sheet.specs.declared.fault.Field.TheVariants as field
use Rattle.hall_sheet.specs.declared.fault.Refusal.{Refusal}
use Rattle.hall_sheet.specs.declared.fault.Refusal.TheVariants.{Range, Repeated}
use Rattle.hall_sheet.specs.declared.fault.SheetFault.{SheetFault}
use Rattle.hall_sheet.specs.Given.{SheetFails}
use Rattle.hall_sheet.specs.People.{person_of, people_from, people_of}

-- an iterator over the rows of some bytes, between two rows
abbrev pub Rows : Type 0
Rows = ByteRecordsIntoIter (Bor (List ℕ))

-- the iterator has these rows left
pub record HasLeft (rows : Rows) (left : List (List (List ℕ))) : Type 0 where
  pub trim : reader_trim (owned_rows_reader rows) ≡ trim.None
  pub ready : Ready (owned_rows_reader rows)
  pub turns : 0 < owned_rows_left rows
  pub config : reader_config (owned_rows_reader rows) ≡ default_config
  pub between : ends_at_end (reader_state (owned_rows_reader rows)) ≡ false
  pub bytes : List ℕ
  pub source : source_of (λ s. Some s.now) (owned_rows_reader rows) ≡ Some bytes
  pub most : ℕ
  pub enough : length bytes < most
  pub are : left ≡ records_from default_config most (reader_state (owned_rows_reader rows)) bytes

-- the first of the rows that were left was taken, or there was none
abbrev pub TakesRow : Option Row → List (List (List ℕ)) → Rows → Type 0
TakesRow None left rows = left ≡ []
TakesRow (Some row) left rows = (more : List (List (List ℕ))) × (left ≡ fields_of row ∷ more) × HasLeft rows more

-- the header was taken from the rows that were left, or there is none
abbrev pub TakesHeader : Result (Unit {0}) SheetFault → List (List (List ℕ)) → Rows → Type 0
TakesHeader (Ok done) left rows =
    (more : List (List (List ℕ))) × HasLeft rows more × (people_of left ≡ people_from [] more)
TakesHeader (Err e) left rows = SheetFails e (people_of left)

-- the person of the record after people who are at most 4,999, whether new among them or not
abbrev pub spelled_after : List Person → List (List ℕ) → Result Person Refusal
spelled_after before fields = unless (Range field.List) (nat_lt (length before) most_people) >>= (λ _. person_of fields)

-- the person of a row was added, or the row has none and the people are those before
abbrev pub AddsRow : Result (Unit {0}) SheetFault → List Person → List (List ℕ) → List Person → Type 0
AddsRow (Ok done) before fields after =
    (person : Person) × (spelled_after before fields ≡ Ok person) × (after ≡ before ++ person ∷ [])
AddsRow (Err e) before fields after = SheetFails e (spelled_after before fields) × (after ≡ before)

-- of people of whom none has a name or a key of another, this is true; and where one has, that is the first fault
abbrev pub UnlessRepeated : List Person → Result (List Person) Refusal → Type 0 → Type 0
UnlessRepeated people all Then = (ArePeople people × Then) ⊎ ((¬ (ArePeople people)) × (all ≡ Err Repeated))

-- these people were read, and they are all or the reading ended with the first fault, unless one is there twice
abbrev pub IsRead : Result (Unit {0}) SheetFault → List Person → Result (List Person) Refusal → Type 0
IsRead (Ok done) people all = UnlessRepeated people all (all ≡ Ok people)
IsRead (Err e) people all = UnlessRepeated people all (SheetFails e all)
