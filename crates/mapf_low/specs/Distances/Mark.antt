-- What is known of a cell while distances are looked for, and how it is written: 0 is that it is blocked, 1 that it is free and
-- unseen, and a greater number is a distance and two.
use Rattle.std.specs.Prelude.{◌≡◌, ℕ, zero, suc, refl, Bool, true, false, Option, Some, None}

pub data Mark : Type 0 where
  blocked : Mark
  unseen : Mark
  seen : ℕ → Mark

abbrev pub mark_of : ℕ → Mark
mark_of zero = blocked
mark_of (suc zero) = unseen
mark_of (suc (suc n)) = seen n

abbrev pub number_of : Mark → ℕ
number_of blocked = zero
number_of unseen = suc zero
number_of (seen n) = suc (suc n)

-- each number is the one that its mark is written with
pub number_of-mark_of : (n : ℕ) → number_of (mark_of n) ≡ n
number_of-mark_of zero = refl
number_of-mark_of (suc zero) = refl
number_of-mark_of (suc (suc n)) = refl

-- before a search each free cell is unseen
abbrev pub first_mark : Bool → Mark
first_mark true = unseen
first_mark false = blocked

abbrev pub distance_of : Mark → Option ℕ
distance_of blocked = None
distance_of unseen = None
distance_of (seen n) = Some n
