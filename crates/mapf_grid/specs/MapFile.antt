-- The map format of MovingAI's benchmarks, type octile, on the list of a file's lines.
-- Line 1 is `type octile`, line 2 `height` and a number, line 3 `width` and a number, line 4 `map`;
-- then come the rows, and after them blank lines alone.
use Rattle.std.specs.Prelude.{◌≡◌, ◌≢◌, ℕ, ◌+◌, ◌-◌, ◌*◌, ◌<◌, ◌≤◌, ◌⊎◌, Bool, ◌||◌, true, false, ◌==◌, List, [], ◌∷◌, length, slice_get, slice_index, codes, Some}
use Rattle.mapf_grid.specs.Grid.{Grid, HasSizes}
use Rattle.mapf_grid.specs.declared.map.header.TheConstants.{MOST_SIDE}
use Rattle.mapf_grid.specs.Least.{IsLeast}
use Rattle.mapf_grid.specs.Lines.{line_at, words, is_blank_line, number_of}
use Rattle.mapf_grid.specs.declared.fault.MapFault.{MapFault}
use Rattle.mapf_grid.specs.declared.fault.MapFault.TheVariants.{TypeLine, Height, Width, MapLine, MissingRow, RowLength, BadCell, TextAfterRows, TooLarge, NoMemory}

-- `.` and `G` are free
abbrev pub is_ground : ℕ → Bool
is_ground b = (b == 46) || (b == 71)

-- `@`, `O` and `T` are blocked, and no other byte is a cell
abbrev pub is_cell : ℕ → Bool
is_cell b = is_ground b || ((b == 64) || ((b == 79) || (b == 84)))

-- the line has two words, this name and a number
pub record HasSize (name line : List ℕ) (size : ℕ) : Type 0 where
  pub digits : List ℕ
  pub words : words line ≡ name ∷ digits ∷ []
  pub number : number_of digits ≡ Some size

-- row y of the grid, byte for cell
pub record IsRow (g : Grid) (y : ℕ) (row : List ℕ) : Type 0 where
  pub exact : length row ≡ g.width
  pub cells : (x : ℕ) → x < g.width → is_cell (slice_index row x) ≡ true
  pub free : (x : ℕ) → x < g.width → slice_get g.free (y * g.width + x) ≡ Some (is_ground (slice_index row x))

-- the grammar: the lines are a map file of this grid
pub record IsMap (lines : List (List ℕ)) (g : Grid) : Type 0 where
  pub type_line : words (line_at lines 1) ≡ codes "type" ∷ codes "octile" ∷ []
  pub height_line : HasSize (codes "height") (line_at lines 2) g.height
  pub width_line : HasSize (codes "width") (line_at lines 3) g.width
  pub map_line : words (line_at lines 4) ≡ codes "map" ∷ []
  pub sizes : HasSizes g
  pub rows : (y : ℕ) → y < g.height → IsRow g y (line_at lines (y + 5))
  pub rest : (k : ℕ) → 4 + g.height < k → is_blank_line (line_at lines k) ≡ true

-- line k is to be a row of so many bytes
pub record IsRowLine (lines : List (List ℕ)) (k width : ℕ) : Type 0 where
  pub height : ℕ
  pub high : HasSize (codes "height") (line_at lines 2) height
  pub wide : HasSize (codes "width") (line_at lines 3) width
  pub from : 4 < k
  pub to : k ≤ 4 + height

-- when a file has a fault; a file may have several
abbrev pub HasMapFault : List (List ℕ) → MapFault → Type 0
HasMapFault lines TypeLine = ¬ (words (line_at lines 1) ≡ codes "type" ∷ codes "octile" ∷ [])
HasMapFault lines Height = ¬ ((n : ℕ) × HasSize (codes "height") (line_at lines 2) n × (0 < n))
HasMapFault lines Width = ¬ ((n : ℕ) × HasSize (codes "width") (line_at lines 3) n × (0 < n))
HasMapFault lines MapLine = ¬ (words (line_at lines 4) ≡ codes "map" ∷ [])
HasMapFault lines (MissingRow k) = (w : ℕ) × IsRowLine lines k w × (length lines < k)
HasMapFault lines (RowLength k) = (w : ℕ) × IsRowLine lines k w × (k ≤ length lines) × (length (line_at lines k) ≢ w)
HasMapFault lines (BadCell k column byte) =
    (w : ℕ) × IsRowLine lines k w × (0 < column) × (column ≤ w)
    × (slice_get (line_at lines k) (column - 1) ≡ Some byte) × (is_cell byte ≡ false)
HasMapFault lines (TextAfterRows k) =
    (h : ℕ) × HasSize (codes "height") (line_at lines 2) h × (4 + h < k) × (is_blank_line (line_at lines k) ≡ false)
HasMapFault lines (TooLarge k) =
    (n : ℕ) × (MOST_SIDE < n)
    × (((k ≡ 2) × HasSize (codes "height") (line_at lines 2) n) ⊎ ((k ≡ 3) × HasSize (codes "width") (line_at lines 3) n))
HasMapFault lines NoMemory = ⊥

-- by line; in a row the first bad byte among the first ones decides, and then the length
abbrev pub map_fault_rank : MapFault → List ℕ
map_fault_rank TypeLine = 1 ∷ []
map_fault_rank Height = 2 ∷ []
map_fault_rank Width = 3 ∷ []
map_fault_rank MapLine = 4 ∷ []
map_fault_rank (MissingRow k) = k ∷ []
map_fault_rank (RowLength k) = k ∷ 1 ∷ []
map_fault_rank (BadCell k column byte) = k ∷ 0 ∷ column ∷ []
map_fault_rank (TextAfterRows k) = k ∷ []
map_fault_rank (TooLarge k) = k ∷ []
map_fault_rank NoMemory = []

-- the fault of the first faulty line
abbrev pub IsMapFault : List (List ℕ) → MapFault → Type 0
IsMapFault lines fault = IsLeast map_fault_rank (HasMapFault lines) fault
