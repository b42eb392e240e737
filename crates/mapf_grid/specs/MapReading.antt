-- How far a map file is read: what its reader knows between two lines.
use Rattle.std.specs.Prelude.{◌≡◌, ◌≢◌, ℕ, ◌+◌, ◌-◌, ◌<◌, ◌≤◌, true, false, List, [], ◌∷◌, length, drop, slice_get, slice_index, codes, Some}
use Rattle.mapf_grid.specs.declared.map.header.TheConstants.{MOST_SIDE}
use Rattle.mapf_grid.specs.Least.{NoneBefore}
use Rattle.mapf_grid.specs.Lines.{lines_of, line_at, words}
use Rattle.mapf_grid.specs.MapFile.{HasSize, HasMapFault, map_fault_rank, is_cell}
use Rattle.mapf_grid.specs.declared.fault.MapFault.{MapFault}
use Rattle.mapf_grid.specs.declared.fault.MapFault.TheVariants.{RowLength, BadCell, NoMemory}

-- the first k lines have no fault, and the lines behind them are those of these bytes
pub record HasRead (lines : List (List ℕ)) (k : ℕ) (bytes : List ℕ) : Type 0 where
  pub left : lines_of bytes ≡ drop k lines
  pub sound : NoneBefore map_fault_rank (HasMapFault lines) ((k + 1) ∷ [])

-- lines 1 to 4 are a header of this height and width
pub record IsHeader (lines : List (List ℕ)) (height width : ℕ) : Type 0 where
  pub type_line : words (line_at lines 1) ≡ codes "type" ∷ codes "octile" ∷ []
  pub height_line : HasSize (codes "height") (line_at lines 2) height
  pub width_line : HasSize (codes "width") (line_at lines 3) width
  pub map_line : words (line_at lines 4) ≡ codes "map" ∷ []
  pub some_height : 0 < height
  pub small_height : height ≤ MOST_SIDE
  pub some_width : 0 < width
  pub small_width : width ≤ MOST_SIDE

-- the first n bytes of a row, or all if it has fewer, are cells
abbrev pub AreCellBytes : List ℕ → ℕ → Type 0
AreCellBytes row n = (x : ℕ) → x < n → x < length row → is_cell (slice_index row x) ≡ true

-- the fault of a row that is to have so many bytes and stands in line k
abbrev pub IsMapRowFault : List ℕ → ℕ → ℕ → MapFault → Type 0
IsMapRowFault row k width (BadCell line column byte) =
    (line ≡ k) × (0 < column) × (column ≤ width) × AreCellBytes row (column - 1)
    × (slice_get row (column - 1) ≡ Some byte) × (is_cell byte ≡ false)
IsMapRowFault row k width (RowLength line) = (line ≡ k) × AreCellBytes row width × (length row ≢ width)
IsMapRowFault row k width NoMemory = Unit {0}
IsMapRowFault row k width other = ⊥
