use Rattle.mapf_grid.proofs.laws.Unique.{one_map_fault}
use Rattle.mapf_grid.proofs.laws.one_map_fault.Goals as goal

pub returns : goal.returns
returns c = one_map_fault
