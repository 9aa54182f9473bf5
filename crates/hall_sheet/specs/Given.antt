-- What a reader of bytes answers: a value, the first thing that is wrong with them, or out of memory.
use Rattle.std.specs.Prelude.{◌≡◌, Result, Ok, Err}
use Rattle.hall_sheet.specs.declared.fault.Refusal.{Refusal}
use Rattle.hall_sheet.specs.declared.fault.SheetFault.{SheetFault}
use Rattle.hall_sheet.specs.declared.fault.SheetFault.TheVariants as fault

-- a refusal is the first thing that is wrong; out of memory says nothing of the bytes
abbrev pub SheetFails : {A : Type 0} → SheetFault → Result A Refusal → Type 0
SheetFails fault.Memory read = Unit {0}
SheetFails (fault.Refused r) read = read ≡ Err r

-- what a reader answers, seen by view, is what the bytes spell, unless memory ran out
abbrev pub Gives : {X Y : Type 0} → (X → Y) → Result X SheetFault → Result Y Refusal → Type 0
Gives view (Ok x) read = read ≡ Ok (view x)
Gives view (Err e) read = SheetFails e read
