-- A file means one thing: one grid or one list of rows, or one first fault, and never both.
use Rattle.mapf_grid.specs.Instance.{HasInstanceFault, instance_fault_rank}
use Rattle.mapf_grid.specs.MapFile.{HasMapFault, map_fault_rank}
use Rattle.mapf_grid.specs.ScenarioFile.{HasScenFault, scen_fault_rank}
use Rattle.mapf_grid.specs.Unique.{OneMap, OneScenario, OneInstance, MapOrFault, ScenarioOrFault, InstanceOrFault, OneMapFault, OneScenFault, OneInstanceFault}
use Rattle.mapf_grid.proofs.Ranks.{same_rank}
use Rattle.mapf_grid.proofs.map.MapFileLaws.{IsMap-one, IsMap-no_fault}
use Rattle.mapf_grid.proofs.scenario.RowNames.{one_list}
use Rattle.mapf_grid.proofs.scenario.FileFaults.{no_fault as no_scenario_fault}
use Rattle.mapf_grid.proofs.instance.InstanceOnly.{one_instance as same_instance, no_fault as no_instance_fault}
use Rattle.mapf_grid.proofs.map.MapFaultRanks.{map_fault_by_rank}
use Rattle.mapf_grid.proofs.scenario.ScenFaultRanks.{scen_fault_by_rank}
use Rattle.mapf_grid.proofs.instance.InstanceFaultRanks.{instance_fault_by_rank}

-- a map file is of one grid
pub one_map : OneMap
one_map = IsMap-one

-- a scenario file is of one list of rows
pub one_scenario : OneScenario
one_scenario = one_list

-- the first n rows make one instance on a grid
pub one_instance : OneInstance
one_instance g rows n a b h k = same_instance h k

-- a map file has a grid or a fault, never both
pub map_or_fault : MapOrFault
map_or_fault lines g fault is first = IsMap-no_fault lines g is fault first.member

-- a scenario file has rows or a fault, never both
pub scenario_or_fault : ScenarioOrFault
scenario_or_fault lines rows fault is first = no_scenario_fault is fault first.member

-- the first n rows make an instance or have a fault, never both
pub instance_or_fault : InstanceOrFault
instance_or_fault g rows n inst fault is first = no_instance_fault is fault first.member

-- a map file has one first fault
pub one_map_fault : OneMapFault
one_map_fault lines a b h k =
    map_fault_by_rank lines a b h.member k.member (same_rank map_fault_rank (HasMapFault lines) a b h k)

-- a scenario file has one first fault
pub one_scen_fault : OneScenFault
one_scen_fault lines a b h k =
    scen_fault_by_rank lines a b h.member k.member (same_rank scen_fault_rank (HasScenFault lines) a b h k)

-- the first n rows have one first fault
pub one_instance_fault : OneInstanceFault
one_instance_fault g rows n a b h k =
    instance_fault_by_rank g rows n a b h.member k.member (same_rank instance_fault_rank (HasInstanceFault g rows n) a b h k)
