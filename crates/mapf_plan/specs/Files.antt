-- A run over devices (this project's): files are read to their ends, one after the other, and then one text is written.
use Rattle.std.specs.Prelude.{◌≡◌, ℕ, ◌<◌, ◌≤◌, Bool, true, false, List, [], ◌∷◌, length, take, Option, IfSome, Result, Err}
use Rattle.std.specs.List.{AllByRecursion}
use Rattle.std.specs.Io.KnownBytes.{Appends, Keeps}
use Rattle.mapf_plan.specs.declared.device.fault.FileName.{FileName}
use Rattle.mapf_plan.specs.declared.device.fault.FileName.TheVariants as file
use Rattle.mapf_plan.specs.declared.device.fault.DeviceFault.{DeviceFault}
use Rattle.mapf_plan.specs.declared.device.fault.DeviceFault.TheVariants as device
use Rattle.mapf_plan.specs.declared.device.files.TheConstants.{MOST_BYTES}

-- a file: its name, and its bytes where its reader tells them
pub record File : Type 0 where
  pub name : FileName
  pub bytes : Option (List ℕ)

-- how a run ended: a text was written, and a value answered with it; a device failed, a file was too long or memory ran out;
-- or what was read was refused
pub data End (V R : Type 0) : Type 0 where
  Written : V → End V R
  Broken : DeviceFault → End V R
  Refused : R → End V R

-- the file is no longer than is read, where its reader tells its bytes
abbrev pub IsWithin : Option (List ℕ) → Type 0
IsWithin bytes = IfSome bytes (λ all. length all ≤ MOST_BYTES)

-- the file is longer than is read
abbrev pub IsTooLong : Option (List ℕ) → Type 0
IsTooLong bytes = IfSome bytes (λ all. MOST_BYTES < length all)

-- why the file of this name and these bytes wasn't read to its end
abbrev pub IsReadFaultOf : FileName → Option (List ℕ) → DeviceFault → Type 0
IsReadFaultOf name bytes (device.ReadFailed which) = which ≡ name
IsReadFaultOf name bytes (device.TooLong which) = (which ≡ name) × IsTooLong bytes
IsReadFaultOf name bytes device.NoMemory = Unit {0}
IsReadFaultOf name bytes (device.WriteFailed taken) = ⊥

-- the reading of one file ended by a failed read
abbrev pub is_file_failure : {T : Type 0} → Result T DeviceFault → Bool
is_file_failure (Err (device.ReadFailed name)) = true
is_file_failure result = false

-- why a text wasn't written: so many first bytes of it were
abbrev pub IsWriteFaultOf : List ℕ → (old new : Option (List ℕ)) → DeviceFault → Type 0
IsWriteFaultOf text old new (device.WriteFailed taken) = (taken ≤ length text) × Appends old new (take taken text)
IsWriteFaultOf text old new other = ⊥

abbrev pub is_same : FileName → FileName → Bool
is_same file.Map file.Map = true
is_same file.Scenario file.Scenario = true
is_same file.Plan file.Plan = true
is_same a b = false

-- one or the other
abbrev pub Choose : Bool → Type 0 → Type 0 → Type 0
Choose true A B = A
Choose false A B = B

-- the files before that of this name are within the limit, and this holds of its bytes
abbrev pub UpTo : (Option (List ℕ) → Type 0) → FileName → List File → Type 0
UpTo Holds name [] = ⊥
UpTo Holds name (f ∷ fs) = Choose (is_same name f.name) (Holds f.bytes) (IsWithin f.bytes × UpTo Holds name fs)

module _ {V R : Type 0} where
  -- the run ended by a failed read of this file
  abbrev pub is_read_failure : FileName → End V R → Bool
  is_read_failure name (Broken (device.ReadFailed which)) = is_same name which
  is_read_failure name end = false

  -- the run ended by a failed write or flush
  abbrev pub is_write_failure : End V R → Bool
  is_write_failure (Broken (device.WriteFailed taken)) = true
  is_write_failure end = false

  -- which file is too long: the first that is, in the order in which they are read. After a failed read nothing is said of
  -- that file and those behind it, and nothing when memory runs out.
  abbrev pub AreWithin : List File → End V R → Type 0
  AreWithin files (Broken (device.TooLong name)) = UpTo IsTooLong name files
  AreWithin files (Broken (device.ReadFailed name)) = UpTo (λ bytes. Unit {0}) name files
  AreWithin files (Broken device.NoMemory) = Unit {0}
  AreWithin files end = AllByRecursion (λ f. IsWithin f.bytes) files

  -- what the writer holds afterwards, from what it held before: a text of which this is said; after a failed write so many
  -- first bytes of one; and else nothing was written. Of a refusal that is said.
  abbrev pub Leaves : (Says : V → List ℕ → Type 0) (Refuses : R → Type 0) (old new : Option (List ℕ)) → End V R → Type 0
  Leaves Says Refuses old new (Written v) = (text : List ℕ) × Says v text × Appends old new text
  Leaves Says Refuses old new (Broken (device.WriteFailed taken)) =
      (v : V) × (text : List ℕ) × Says v text × (taken ≤ length text) × Appends old new (take taken text)
  Leaves Says Refuses old new (Broken other) = Keeps old new
  Leaves Says Refuses old new (Refused r) = Keeps old new × Refuses r
