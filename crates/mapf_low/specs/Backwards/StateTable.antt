-- A table of states, cells at time steps, in which each state has one place.
use Rattle.std.specs.Prelude.{◌≡◌, ◌⊎◌, ℕ, ◌+◌, ◌*◌, ◌%◌, ◌<◌, List, length, slice_index_or, Option, None, Some}
use Rattle.std.specs.List.{filter_map}

-- how many places a table may have
abbrev pub IsSize : ℕ → Type 0
IsSize count = (count ≡ 128) ⊎ (count ≡ 4096)

-- where a state stands in a table of so many places
abbrev pub place_of : ℕ → ℕ × ℕ → ℕ
place_of count state = (state.0 * 97 + state.1 * 389) % count

-- each state stands at its own place
abbrev pub AreAtPlaces : List (Option (ℕ × ℕ)) → Type 0
AreAtPlaces table = (s : ℕ × ℕ) (k : ℕ) → k < length table → slice_index_or table k None ≡ Some s → k ≡ place_of (length table) s

-- a table of some size or of no places, with each state at its own
pub record IsTable (table : List (Option (ℕ × ℕ))) : Type 0 where
  pub size : (length table ≡ 0) ⊎ IsSize (length table)
  pub at_places : AreAtPlaces table

-- the states that stand in a table
abbrev pub states_of : List (Option (ℕ × ℕ)) → List (ℕ × ℕ)
states_of table = filter_map (λ o. o) table
