-- How a command ends: its exit status, and a fault that is none of a device.
use Rattle.std.specs.Prelude.{◌≡◌, ◌⊎◌, ℕ, Result, Ok, Err}
use Rattle.hall_tool.specs.declared.fault.ToolFault.{ToolFault}
use Rattle.hall_tool.specs.declared.fault.ToolFault.TheVariants.{Memory, Store}

-- the status that the command answers, and 3 for a fault
abbrev pub status_of : {F : Type 0} → Result ℕ F → ℕ
status_of (Ok status) = status
status_of (Err fault) = 3

-- out of memory, or the store refused; no reader and no writer failed
abbrev pub IsOfMemoryOrStore : ToolFault → Type 0
IsOfMemoryOrStore fault = (fault ≡ Memory) ⊎ (fault ≡ Store)
