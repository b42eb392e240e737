use Rattle.mapf_grid.proofs.laws.Unique.{one_instance_fault}
use Rattle.mapf_grid.proofs.laws.one_instance_fault.Goals as goal

pub returns : goal.returns
returns c = one_instance_fault
