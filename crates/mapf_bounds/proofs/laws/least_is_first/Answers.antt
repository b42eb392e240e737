use Rattle.mapf_bounds.proofs.Covers.{least_is_first}
use Rattle.mapf_bounds.proofs.laws.least_is_first.Goals as goal

pub returns : goal.returns
returns c = least_is_first
