-- What the owner has posted: each number in the slot of its place, or no job there.
use Rattle.std.specs.Prelude.{◌≡◌, ℕ, List, Option, Some, None, slice_index, slice_index_or}

-- the current job of a slot, if any, is the number that stands at the slot's place
abbrev pub AreAmong : List (Option ℕ) → List ℕ → Type 0
AreAmong current numbers = (slot job : ℕ) → slice_index_or current slot None ≡ Some job → job ≡ slice_index numbers slot
