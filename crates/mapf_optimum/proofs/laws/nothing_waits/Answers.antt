use Rattle.mapf_optimum.proofs.Covering.{nothing_waits}
use Rattle.mapf_optimum.proofs.laws.nothing_waits.Goals as goal

pub returns : goal.returns
returns c = nothing_waits
