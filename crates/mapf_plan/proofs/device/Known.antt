-- Bytes that a device tells of, over several calls.
use Rattle.std.proofs.Common.{◌≡◌, ℕ, ◌+◌, ◌-◌, ◌≤◌, List, Option, length, take, drop, take_all, length-drop, subst, sym, arith}
use Rattle.std.specs.Io.KnownBytes.{Appends}
use Rattle.std.proofs.Math.Seq.{take-add}
use Rattle.std.proofs.KnownBytes.{Appends-trans}

-- a write of the bytes from a place on, after the bytes before that place were written
pub Appends-front : (a b c : Option (List ℕ)) (bytes : List ℕ) (taken count : ℕ) → taken ≤ length bytes
    → Appends a b (take taken bytes) → Appends b c (take count (take (length bytes - taken) (drop taken bytes)))
    → Appends a c (take (taken + count) bytes)
Appends-front a b c bytes taken count within first second =
    let rest : take (length bytes - taken) (drop taken bytes) ≡ drop taken bytes = take_all _ (drop taken bytes) (omega (arith, length-drop taken bytes)) in
    subst (Appends a c) (sym (take-add taken count bytes)) (Appends-trans a b c _ _ first (rw rest at second))
