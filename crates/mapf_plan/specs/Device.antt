-- Devices that count their failures.
use Rattle.std.specs.Prelude.{◌≡◌, ℕ, ◌+◌, Bool, true, false, ◌&&◌, ◌==◌, nat_lt, List, length, Result, Ok, Err}
use Rattle.mapf_plan.specs.declared.device.whole.ReadFault.{ReadFault}
use Rattle.mapf_plan.specs.declared.device.whole.ReadFault.TheVariants.{Failed, TooLong, NoMemory}

-- a call that fails adds 1 to the count of failures, and every other call leaves it
abbrev pub Counts : (fails : Bool) → (old new : ℕ) → Type 0
Counts true old new = new ≡ old + 1
Counts false old new = new ≡ old

-- a write fails where it answers an error, and where it takes none of some bytes
abbrev pub write_fails : {E : Type 0} → Result ℕ E → List ℕ → Bool
write_fails (Ok n) bytes = (n == 0) && nat_lt 0 (length bytes)
write_fails (Err e) bytes = true

-- whether the reading of a whole source ended by a call that failed
abbrev pub is_failed : {T : Type 0} → Result T ReadFault → Bool
is_failed (Ok bytes) = false
is_failed (Err Failed) = true
is_failed (Err TooLong) = false
is_failed (Err NoMemory) = false
