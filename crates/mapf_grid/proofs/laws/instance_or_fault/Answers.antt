use Rattle.mapf_grid.proofs.laws.Unique.{instance_or_fault}
use Rattle.mapf_grid.proofs.laws.instance_or_fault.Goals as goal

pub returns : goal.returns
returns c = instance_or_fault
