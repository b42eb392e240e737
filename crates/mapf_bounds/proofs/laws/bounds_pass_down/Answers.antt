use Rattle.mapf_bounds.proofs.Subtrees.{bounds_pass_down}
use Rattle.mapf_bounds.proofs.laws.bounds_pass_down.Goals as goal

pub returns : goal.returns
returns c = bounds_pass_down
