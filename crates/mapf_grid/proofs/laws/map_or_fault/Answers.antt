use Rattle.mapf_grid.proofs.laws.Unique.{map_or_fault}
use Rattle.mapf_grid.proofs.laws.map_or_fault.Goals as goal

pub returns : goal.returns
returns c = map_or_fault
