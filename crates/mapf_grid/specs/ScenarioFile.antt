-- The scenario format of MovingAI's benchmarks, version 1, on the list of a file's lines.
-- Line 1 is `version 1` or `version 1.0`; each other line is a row, and blank lines at the file's end are none.
use Rattle.std.specs.Prelude.{◌≡◌, ℕ, ◌+◌, ◌-◌, ◌<◌, ◌≤◌, ◌⊎◌, true, false, if◌then◌else◌, nat_le, List, [], ◌∷◌, ◌++◌, length, slice_get, slice_index, slice_index_or, codes, Some, None}
use Rattle.mapf_grid.specs.Least.{IsLeast}
use Rattle.mapf_grid.specs.Lines.{line_at, words, is_blank, is_blank_line, number_of}
use Rattle.mapf_grid.specs.declared.scenario.Row.{Row}
use Rattle.mapf_grid.specs.declared.fault.ScenFault.{ScenFault}
use Rattle.mapf_grid.specs.declared.fault.ScenFault.TheVariants.{Version, FieldCount, Number, NoMemory}

abbrev pub IsVersion : List ℕ → Type 0
IsVersion line =
    (words line ≡ codes "version" ∷ codes "1" ∷ []) ⊎ (words line ≡ codes "version" ∷ codes "1.0" ∷ [])

-- a line stays unless it is blank and no line behind it stays
abbrev pub kept_before : List ℕ → List (List ℕ) → List (List ℕ)
kept_before line [] = if is_blank_line line then [] else line ∷ []
kept_before line (next ∷ more) = line ∷ next ∷ more

-- the lines without the blank ones at the file's end
abbrev pub without_blank_end : List (List ℕ) → List (List ℕ)
without_blank_end [] = []
without_blank_end (line ∷ lines) = kept_before line (without_blank_end lines)

-- of a line with at least nine words: field 1 is the first word, and fields 3 to 9 are the last seven
abbrev pub field : List ℕ → ℕ → List ℕ
field line f =
    if nat_le f 1 then slice_index_or (words line) 0 [] else slice_index_or (words line) (length (words line) + f - 10) []

-- field 2 is all from the second word to the word before field 3: one word stands before it and seven behind it,
-- and it neither begins nor ends with a blank
pub record HasName (line name : List ℕ) : Type 0 where
  pub before : List ℕ
  pub after : List ℕ
  pub whole : line ≡ before ++ (name ++ after)
  pub one_before : length (words before) ≡ 1
  pub seven_after : length (words after) ≡ 7
  pub some : 0 < length name
  pub begins : is_blank (slice_index name 0) ≡ false
  pub ends : is_blank (slice_index name (length name - 1)) ≡ false
  pub parted_before : is_blank (slice_index before (length before - 1)) ≡ true
  pub parted_after : is_blank (slice_index after 0) ≡ true

-- the line spells the row
pub record IsRowOf (line : List ℕ) (row : Row) : Type 0 where
  pub nine : 9 ≤ length (words line)
  pub bucket : number_of (field line 1) ≡ Some row.bucket
  pub map_name : HasName line row.map_name
  pub width : number_of (field line 3) ≡ Some row.width
  pub height : number_of (field line 4) ≡ Some row.height
  pub start_x : number_of (field line 5) ≡ Some row.start_x
  pub start_y : number_of (field line 6) ≡ Some row.start_y
  pub goal_x : number_of (field line 7) ≡ Some row.goal_x
  pub goal_y : number_of (field line 8) ≡ Some row.goal_y
  pub optimal_length : field line 9 ≡ row.optimal_length

-- the grammar: the lines are a scenario file of these rows
pub record IsScenario (lines : List (List ℕ)) (rows : List Row) : Type 0 where
  pub version : IsVersion (line_at lines 1)
  pub count : length (without_blank_end lines) ≡ length rows + 1
  pub spelled : (i : ℕ) (row : Row) → slice_get rows i ≡ Some row → IsRowOf (line_at lines (i + 2)) row

-- fields 1 and 3 to 8 are numbers
abbrev pub IsNumberField : ℕ → Type 0
IsNumberField f = (f ≡ 1) ⊎ ((3 ≤ f) × (f ≤ 8))

-- when a file has a fault; a file may have several
abbrev pub HasScenFault : List (List ℕ) → ScenFault → Type 0
HasScenFault lines Version = ¬ IsVersion (line_at lines 1)
HasScenFault lines (FieldCount k) =
    (1 < k) × (k ≤ length (without_blank_end lines)) × (length (words (line_at lines k)) < 9)
HasScenFault lines (Number k f) =
    (1 < k) × (k ≤ length (without_blank_end lines)) × (9 ≤ length (words (line_at lines k)))
    × IsNumberField f × (number_of (field (line_at lines k) f) ≡ None)
HasScenFault lines NoMemory = ⊥

-- by line and then by field
abbrev pub scen_fault_rank : ScenFault → List ℕ
scen_fault_rank Version = 1 ∷ []
scen_fault_rank (FieldCount k) = k ∷ []
scen_fault_rank (Number k f) = k ∷ f ∷ []
scen_fault_rank NoMemory = []

-- the fault of the first faulty line
abbrev pub IsScenFault : List (List ℕ) → ScenFault → Type 0
IsScenFault lines fault = IsLeast scen_fault_rank (HasScenFault lines) fault
