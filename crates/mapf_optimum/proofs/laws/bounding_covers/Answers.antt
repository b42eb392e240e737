use Rattle.mapf_optimum.proofs.Covering.{bounding_covers}
use Rattle.mapf_optimum.proofs.laws.bounding_covers.Goals as goal

pub returns : goal.returns
returns c = bounding_covers
