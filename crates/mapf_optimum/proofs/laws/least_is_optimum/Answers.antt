use Rattle.mapf_optimum.proofs.Covering.{least_is_optimum}
use Rattle.mapf_optimum.proofs.laws.least_is_optimum.Goals as goal

pub returns : goal.returns
returns c = least_is_optimum
