-- Why a call has no answer, and the status for it.
use Rattle.std.specs.Prelude.{◌≡◌, ℕ, ◌≤◌, ◌⊎◌, List, length, codes}
use Rattle.mapf_plan.specs.declared.device.files.TheConstants.{MOST_BYTES}
use Rattle.mapf_plan.specs.declared.device.fault.DeviceFault.TheVariants as device
use Rattle.mapf_plan.specs.declared.text.fault.TextFault.TheVariants as text_fault
use Rattle.mapf_solve.specs.declared.refusal.Refusal.TheVariants as refusal
use Rattle.mapf_c.specs.declared.fault.Fault.{Fault}
use Rattle.mapf_c.specs.declared.fault.Fault.TheVariants as fault

abbrev pub refused : ℕ
refused = 3

abbrev pub no_memory : ℕ
no_memory = 4

-- the status for a fault: want of memory has its own
abbrev pub status_of : Fault → ℕ
status_of (fault.Refusal refusal.NoMemory) = no_memory
status_of (fault.Refusal named) = refused
status_of (fault.Text text_fault.NoMemory) = no_memory
status_of (fault.Text named) = refused
status_of (fault.Device device.NoMemory) = no_memory
status_of (fault.Device named) = refused

-- the status that a fault's line is left with: its own; or that of no memory with the line of that, if there was none for the
-- fault's line
abbrev pub IsStatusFor : Fault → (status : ℕ) → (line : List ℕ) → Type 0
IsStatusFor named status line = (status ≡ status_of named) ⊎ ((status ≡ no_memory) × (line ≡ codes "43 no memory\n"))

-- so many bytes are read as a file
abbrev pub IsRead : List ℕ → Type 0
IsRead bytes = length bytes ≤ MOST_BYTES
