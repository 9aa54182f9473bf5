-- What a reader of bytes answers: a value, the first fault of their form, or out of memory.
use Rattle.std.specs.Prelude.{◌≡◌, Result, Ok, Err}
use Rattle.hall_http.specs.declared.form.FormFault.{FormFault}
use Rattle.hall_http.specs.declared.form.RequestFault.{RequestFault}
use Rattle.hall_http.specs.declared.form.RequestFault.TheVariants as fault

-- a refusal for the bytes' form is the first fault; out of memory says nothing of the bytes
abbrev pub FormFails : {A : Type 0} → RequestFault → Result A FormFault → Type 0
FormFails fault.Memory read = Unit {0}
FormFails (fault.Form f) read = read ≡ Err f

-- what a reader answers, seen by view, is what the bytes spell, unless memory ran out
abbrev pub GivesForm : {X Y : Type 0} → (X → Y) → Result X RequestFault → Result Y FormFault → Type 0
GivesForm view (Ok x) read = read ≡ Ok (view x)
GivesForm view (Err e) read = FormFails e read

-- what a reader answers is what the bytes mean, or their first fault, unless memory ran out
abbrev pub FindsForm : {X : Type 0} → Result X RequestFault → (Result X FormFault → Type 0) → Type 0
FindsForm (Ok x) Means = Means (Ok x)
FindsForm (Err fault.Memory) Means = Unit {0}
FindsForm (Err (fault.Form f)) Means = Means (Err f)
