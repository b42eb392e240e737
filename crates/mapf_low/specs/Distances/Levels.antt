-- One step of a search by levels: how the table of distances and the list of cells to come change.
use Rattle.std.specs.Prelude.{◌≡◌, ℕ, ◌+◌, ◌⊎◌, ◌↔◌, List, length, map, slice_index_or, Option, Some, None, Contains, count_by, is_none}
use Rattle.mapf_grid.specs.Grid.{Grid, IsFree, IsBeside}
use Rattle.mapf_low.specs.Distances.Mark.{Mark, blocked, unseen, distance_of}

-- v is a free neighbour of u
abbrev pub IsFreeNeighbour : Grid → ℕ → ℕ → Type 0
IsFreeNeighbour g u v = IsFree g v × IsBeside g u v

-- v is a free neighbour of one of these cells
abbrev pub IsFreeNeighbourOfSome : Grid → List ℕ → ℕ → Type 0
IsFreeNeighbourOfSome g level v = (u : ℕ) × Contains level u × IsFreeNeighbour g u v

-- how many cells have no distance yet
abbrev pub unmarked : List (Option ℕ) → ℕ
unmarked table = count_by is_none table

-- each cell of the set S has a distance now: those that had none have this one and have joined the list of cells to come,
-- and nothing else changed
pub record Marks (S : ℕ → Type 0) (distance : ℕ) (old new : List (Option ℕ)) (old_cells new_cells : List ℕ) : Type 0 where
  pub same_length : length new ≡ length old
  pub kept : (c m : ℕ) → slice_index_or old c None ≡ Some m → slice_index_or new c None ≡ Some m
  pub marked : (c : ℕ) → S c → (m : ℕ) × (slice_index_or new c None ≡ Some m)
  pub fresh : (c m : ℕ) → slice_index_or new c None ≡ Some m →
      (slice_index_or old c None ≡ Some m) ⊎ ((m ≡ distance) × S c × Contains new_cells c)
  pub listed : (c : ℕ) → Contains new_cells c → Contains old_cells c ⊎ (slice_index_or new c None ≡ Some distance)
  pub stays : (c : ℕ) → Contains old_cells c → Contains new_cells c
  pub count : unmarked new + length new_cells ≡ unmarked old + length old_cells

-- the distances that marks tell
abbrev pub distances_of : List Mark → List (Option ℕ)
distances_of marks = map distance_of marks

-- each cell of the set S has been seen now, those that were unseen at this distance
abbrev pub AreSeen : (S : ℕ → Type 0) (distance : ℕ) (old new : List Mark) (old_cells new_cells : List ℕ) → Type 0
AreSeen S distance old new old_cells new_cells = Marks S distance (distances_of old) (distances_of new) old_cells new_cells

abbrev pub IsUnseen : List Mark → ℕ → Type 0
IsUnseen marks c = slice_index_or marks c blocked ≡ unseen

-- the cells that the marks call unseen are the free ones without a distance
abbrev pub TellUnseen : Grid → List Mark → Type 0
TellUnseen g marks = (c : ℕ) → IsUnseen marks c ↔ (IsFree g c × (slice_index_or (distances_of marks) c None ≡ None))
