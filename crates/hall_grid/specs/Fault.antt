-- How the first fault of a text is written.
use Rattle.std.specs.Prelude.{ℕ, List, ◌++◌, codes, decimal}
use Rattle.hall_grid.specs.declared.fault.TextFault.{TextFault}
use Rattle.hall_grid.specs.declared.fault.TextFault.TheVariants as faults

-- the fault's code, and after a space the place where it has one
abbrev pub fault_text : TextFault → List ℕ
fault_text faults.Memory = codes "E1"
fault_text faults.Kind = codes "E2"
fault_text faults.SizeField = codes "E3"
fault_text faults.SizeLimit = codes "E4"
fault_text (faults.Strange place) = codes "E5 " ++ decimal place
fault_text (faults.Cut place) = codes "E6 " ++ decimal place
fault_text (faults.Range place) = codes "E7 " ++ decimal place
fault_text (faults.After place) = codes "E8 " ++ decimal place
