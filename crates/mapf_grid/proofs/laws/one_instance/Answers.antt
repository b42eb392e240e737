use Rattle.mapf_grid.proofs.laws.Unique.{one_instance}
use Rattle.mapf_grid.proofs.laws.one_instance.Goals as goal

pub returns : goal.returns
returns c = one_instance
