use Rattle.mapf_optimum.proofs.Sides.{has_a_side}
use Rattle.mapf_optimum.proofs.laws.has_a_side.Goals as goal

pub returns : goal.returns
returns c = has_a_side
