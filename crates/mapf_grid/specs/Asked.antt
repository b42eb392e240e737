-- What the bytes of a map and a scenario ask for: an instance, or else the first fault of the two files (this project's).
use Rattle.std.specs.Prelude.{ℕ, List}
use Rattle.mapf_grid.specs.Grid.{Grid}
use Rattle.mapf_grid.specs.Lines.{lines_of}
use Rattle.mapf_grid.specs.MapFile.{IsMap, IsMapFault}
use Rattle.mapf_grid.specs.ScenarioFile.{IsScenario, IsScenFault}
use Rattle.mapf_grid.specs.Instance.{Instance, IsInstance, IsInstanceFault}
use Rattle.mapf_grid.specs.declared.scenario.Row.{Row}
use Rattle.mapf_grid.specs.declared.fault.MapFault.{MapFault}
use Rattle.mapf_grid.specs.declared.fault.MapFault.TheVariants as map_fault
use Rattle.mapf_grid.specs.declared.fault.ScenFault.{ScenFault}
use Rattle.mapf_grid.specs.declared.fault.ScenFault.TheVariants as scen_fault
use Rattle.mapf_grid.specs.declared.fault.InstanceFault.{InstanceFault}
use Rattle.mapf_grid.specs.declared.fault.InstanceFault.TheVariants as instance_fault
use Rattle.mapf_grid.specs.declared.files.FilesFault.{FilesFault}
use Rattle.mapf_grid.specs.declared.files.FilesFault.TheVariants as files

-- the instance that the bytes of the two files ask for
pub record IsAsked (map scen : List ℕ) (agents : ℕ) (inst : Instance) : Type 0 where
  pub rows : List Row
  pub map_file : IsMap (lines_of map) inst.grid
  pub scenario_file : IsScenario (lines_of scen) rows
  pub instance : IsInstance inst.grid rows agents inst

-- the first fault of the map, the scenario and the instance
abbrev pub IsFilesFault : List ℕ → List ℕ → ℕ → FilesFault → Type 0
IsFilesFault map scen agents (files.Map fault) = IsMapFault (lines_of map) fault
IsFilesFault map scen agents (files.Scenario fault) = (g : Grid) × IsMap (lines_of map) g × IsScenFault (lines_of scen) fault
IsFilesFault map scen agents (files.Instance fault) =
    (g : Grid) × (rows : List Row) × IsMap (lines_of map) g × IsScenario (lines_of scen) rows × IsInstanceFault g rows agents fault
IsFilesFault map scen agents files.NoMemory = ⊥

-- each reader's fault: `NoMemory` is one, wherever it came
abbrev pub of_map : MapFault → FilesFault
of_map map_fault.NoMemory = files.NoMemory
of_map fault = files.Map fault

abbrev pub of_scenario : ScenFault → FilesFault
of_scenario scen_fault.NoMemory = files.NoMemory
of_scenario fault = files.Scenario fault

abbrev pub of_instance : InstanceFault → FilesFault
of_instance instance_fault.NoMemory = files.NoMemory
of_instance fault = files.Instance fault
