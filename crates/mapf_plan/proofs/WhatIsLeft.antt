-- What is said of the text that a run leaves.
use Rattle.std.proofs.Common.{◌≡◌, ℕ, List, Option, Some, None, IfSome, subst, ◌∙◌}
use Rattle.mapf_plan.specs.Files.{End, Written, Broken, Refused, IsWriteFaultOf, Leaves}
use Rattle.mapf_plan.specs.declared.device.fault.DeviceFault.{DeviceFault}
use Rattle.mapf_plan.specs.declared.device.fault.DeviceFault.TheVariants as device

-- what holds of the bytes that were read, seen as a slice, holds of what the reader tells
pub told : (known : Option (List ℕ)) (slice read : List ℕ) (P : List ℕ → Type 0) → slice ≡ read → IfSome known (λ all. read ≡ all) → P slice → IfSome known P
told None slice read P same is h = tt
told (Some all) slice read P same is h = subst P (same ∙ is) h

-- of a text that was written in part the same is said
pub Leaves-part : {V R : Type 0} (Says : V → List ℕ → Type 0) (Refuses : R → Type 0) (old new : Option (List ℕ)) (v : V) (text : List ℕ) (broken : DeviceFault) →
    Says v text → IsWriteFaultOf text old new broken → Leaves Says Refuses old new (Broken broken)
Leaves-part Says Refuses old new v text (device.WriteFailed taken) s h = (v, text, s, h.0, h.1)
Leaves-part Says Refuses old new v text (device.ReadFailed name) s h = absurd h
Leaves-part Says Refuses old new v text (device.TooLong name) s h = absurd h
Leaves-part Says Refuses old new v text device.NoMemory s h = absurd h

module _ {V R : Type 0} (Says More : V → List ℕ → Type 0) (Refuses Also : R → Type 0) (text : (v : V) (t : List ℕ) → Says v t → More v t) (refusal : (r : R) → Refuses r → Also r) where
  -- what follows from what is said of it is left too
  pub Leaves-more : (old new : Option (List ℕ)) (end : End V R) → Leaves Says Refuses old new end → Leaves More Also old new end
  Leaves-more old new (Written v) (t, s, h) = (t, text v t s, h)
  Leaves-more old new (Broken (device.WriteFailed taken)) (v, t, s, n, h) = (v, t, text v t s, n, h)
  Leaves-more old new (Broken (device.ReadFailed name)) h = h
  Leaves-more old new (Broken (device.TooLong name)) h = h
  Leaves-more old new (Broken device.NoMemory) h = h
  Leaves-more old new (Refused r) (k, h) = (k, refusal r h)
