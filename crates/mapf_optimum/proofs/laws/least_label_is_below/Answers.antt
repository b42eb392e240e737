use Rattle.mapf_optimum.proofs.Covering.{least_label_is_below}
use Rattle.mapf_optimum.proofs.laws.least_label_is_below.Goals as goal

pub returns : goal.returns
returns c = least_label_is_below
