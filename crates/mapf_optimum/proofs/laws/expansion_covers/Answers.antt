use Rattle.mapf_optimum.proofs.Covering.{expansion_covers}
use Rattle.mapf_optimum.proofs.laws.expansion_covers.Goals as goal

pub returns : goal.returns
returns c = expansion_covers
