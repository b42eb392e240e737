-- A row's line as nine fields.
use Rattle.std.specs.Prelude.{◌≡◌, ℕ, ◌<◌, ◌≤◌, List, [], ◌∷◌, ◌++◌, length, None}
use Rattle.mapf_grid.specs.Least.{IsLeast}
use Rattle.mapf_grid.specs.Lines.{words, number_of}
use Rattle.mapf_grid.specs.ScenarioFile.{HasName, IsNumberField, field, scen_fault_rank}
use Rattle.mapf_grid.specs.declared.fault.ScenFault.{ScenFault}
use Rattle.mapf_grid.specs.declared.fault.ScenFault.TheVariants.{Version, FieldCount, Number, NoMemory}
use Rattle.mapf_grid.specs.declared.scenario.fields.Fields.{Fields}

-- the first word is the bucket, the last seven are fields 3 to 9, and at least one word stands between
pub record AreFields (line : List ℕ) (fields : Fields) : Type 0 where
  pub middle : List (List ℕ)
  pub some : 0 < length middle
  pub in_words : words line ≡ fields.bucket.now ∷ (middle ++ fields.width.now ∷ fields.height.now ∷ fields.start_x.now ∷ fields.start_y.now ∷ fields.goal_x.now ∷ fields.goal_y.now ∷ fields.optimal_length.now ∷ [])
  pub name : HasName line fields.map_name.now

-- when line k, which is to be a row, has a fault
abbrev pub HasRowFault : List ℕ → ℕ → ScenFault → Type 0
HasRowFault line k Version = ⊥
HasRowFault line k (FieldCount l) = (l ≡ k) × (length (words line) < 9)
HasRowFault line k (Number l f) =
    (l ≡ k) × (9 ≤ length (words line)) × IsNumberField f × (number_of (field line f) ≡ None)
HasRowFault line k NoMemory = ⊥

-- the line's first fault
abbrev pub IsScenarioRowFault : List ℕ → ℕ → ScenFault → Type 0
IsScenarioRowFault line k fault = IsLeast scen_fault_rank (HasRowFault line k) fault
