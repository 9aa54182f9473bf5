-- The header is taken, or is missing.
use Rattle.std.proofs.Common.{◌≡◌, ℕ, List, [], ◌∷◌, Result, Ok, Err, refl}
use Rattle.csv.specs.Records.{Row, fields_of}
use Rattle.hall_sheet.specs.declared.fault.Refusal.TheVariants.{Syntax}
use Rattle.hall_sheet.specs.declared.fault.SheetFault.{SheetFault}
use Rattle.hall_sheet.specs.declared.fault.SheetFault.TheVariants as fault
use Rattle.hall_sheet.specs.Given.{Gives}
use Rattle.hall_sheet.specs.List.{Rows, HasLeft, TakesHeader}
use Rattle.hall_sheet.specs.People.{header_in, people_of}

taken : (r : Result (Unit {0}) SheetFault) (left more : List (List (List ℕ))) (row : Row) (rows : Rows)
    → left ≡ fields_of row ∷ more → HasLeft rows more → Gives (λ done. done) r (header_in (fields_of row))
    → TakesHeader r left rows
taken (Ok tt) left more row rows is h g = (more, h, rw (is, g) refl)
taken (Err fault.Memory) left more row rows is h g = tt
taken (Err (fault.Refused r)) left more row rows is h g = rw (is, g) refl

pub header_taken : (r : Result (Unit {0}) SheetFault) (left : List (List (List ℕ))) (row : Row) (rows : Rows)
    → ((more : List (List (List ℕ))) × (left ≡ fields_of row ∷ more) × HasLeft rows more)
    → Gives (λ done. done) r (header_in (fields_of row)) → TakesHeader r left rows
header_taken r left row rows h g = taken r left h.0 row rows h.1 h.2 g

pub no_header : (left : List (List (List ℕ))) → left ≡ [] → people_of left ≡ Err Syntax
no_header left is = rw is refl
