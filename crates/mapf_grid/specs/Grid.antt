-- Grids with four sides to a cell (Stern et al. 2019; the octile maps of MovingAI's benchmarks, without the corners).
-- The cell in column x of row y has the number y * width + x.
use Rattle.std.specs.Prelude.{◌≡◌, ℕ, ◌+◌, ◌*◌, ◌/◌, ◌<◌, ◌≤◌, ◌⊎◌, List, Bool, true, Some, length, slice_get}
use Rattle.mapf_grid.specs.declared.map.header.TheConstants.{MOST_SIDE}

-- how wide and how high the map is, and of each cell in order of number whether it is free
pub record Grid : Type 0 where
  pub width : ℕ
  pub height : ℕ
  pub free : List Bool

-- a cell of the map has a number below the number of cells
abbrev pub cells : Grid → ℕ
cells g = g.height * g.width

abbrev pub IsFree : Grid → ℕ → Type 0
IsFree g c = slice_get g.free c ≡ Some true

-- v is at the right of u in the same row, or below it
abbrev pub IsRightOrBelow : Grid → ℕ → ℕ → Type 0
IsRightOrBelow g u v = ((v ≡ u + 1) × (v / g.width ≡ u / g.width)) ⊎ (v ≡ u + g.width)

-- the two cells lie side by side, in one of four directions
abbrev pub IsBeside : Grid → ℕ → ℕ → Type 0
IsBeside g u v = IsRightOrBelow g u v ⊎ IsRightOrBelow g v u

-- a step: to wait, or to go to a side; both cells are free
abbrev pub Next : Grid → ℕ → ℕ → Type 0
Next g u v = IsFree g u × IsFree g v × ((u ≡ v) ⊎ IsBeside g u v)

-- the sizes that a map of this project has
pub record HasSizes (g : Grid) : Type 0 where
  pub some_width : 0 < g.width
  pub small_width : g.width ≤ MOST_SIDE
  pub some_height : 0 < g.height
  pub small_height : g.height ≤ MOST_SIDE
  pub each_cell : length g.free ≡ cells g
