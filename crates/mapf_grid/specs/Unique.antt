-- A file means one thing: it has one grid or one list of rows, or one first fault, and never both.
-- The formats are MovingAI's; these laws are this project's.
use Rattle.std.specs.Prelude.{◌≡◌, ℕ, List}
use Rattle.mapf_grid.specs.Grid.{Grid}
use Rattle.mapf_grid.specs.MapFile.{IsMap, IsMapFault}
use Rattle.mapf_grid.specs.ScenarioFile.{IsScenario, IsScenFault}
use Rattle.mapf_grid.specs.Instance.{Instance, IsInstance, IsInstanceFault}
use Rattle.mapf_grid.specs.declared.scenario.Row.{Row}
use Rattle.mapf_grid.specs.declared.fault.MapFault.{MapFault}
use Rattle.mapf_grid.specs.declared.fault.ScenFault.{ScenFault}
use Rattle.mapf_grid.specs.declared.fault.InstanceFault.{InstanceFault}

-- a map file is of one grid
abbrev pub OneMap : Type 0
OneMap = (lines : List (List ℕ)) (a b : Grid) → IsMap lines a → IsMap lines b → a ≡ b

-- a scenario file is of one list of rows
abbrev pub OneScenario : Type 0
OneScenario = (lines : List (List ℕ)) (a b : List Row) → IsScenario lines a → IsScenario lines b → a ≡ b

-- the first n rows make one instance on a grid
abbrev pub OneInstance : Type 0
OneInstance = (g : Grid) (rows : List Row) (n : ℕ) (a b : Instance) → IsInstance g rows n a → IsInstance g rows n b → a ≡ b

-- a map file has a grid or a fault, never both
abbrev pub MapOrFault : Type 0
MapOrFault = (lines : List (List ℕ)) (g : Grid) (fault : MapFault) → IsMap lines g → IsMapFault lines fault → ⊥

-- a scenario file has rows or a fault, never both
abbrev pub ScenarioOrFault : Type 0
ScenarioOrFault = (lines : List (List ℕ)) (rows : List Row) (fault : ScenFault) → IsScenario lines rows → IsScenFault lines fault → ⊥

-- the first n rows make an instance or have a fault, never both
abbrev pub InstanceOrFault : Type 0
InstanceOrFault =
    (g : Grid) (rows : List Row) (n : ℕ) (inst : Instance) (fault : InstanceFault)
    → IsInstance g rows n inst → IsInstanceFault g rows n fault → ⊥

-- a map file has one first fault
abbrev pub OneMapFault : Type 0
OneMapFault = (lines : List (List ℕ)) (a b : MapFault) → IsMapFault lines a → IsMapFault lines b → a ≡ b

-- a scenario file has one first fault
abbrev pub OneScenFault : Type 0
OneScenFault = (lines : List (List ℕ)) (a b : ScenFault) → IsScenFault lines a → IsScenFault lines b → a ≡ b

-- the first n rows have one first fault
abbrev pub OneInstanceFault : Type 0
OneInstanceFault =
    (g : Grid) (rows : List Row) (n : ℕ) (a b : InstanceFault)
    → IsInstanceFault g rows n a → IsInstanceFault g rows n b → a ≡ b
