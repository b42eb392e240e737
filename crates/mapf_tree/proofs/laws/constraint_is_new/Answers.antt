use Rattle.mapf_tree.proofs.finite.Measure.{constraint_is_new}
use Rattle.mapf_tree.proofs.laws.constraint_is_new.Goals as goal

pub returns : goal.returns
returns c = constraint_is_new
