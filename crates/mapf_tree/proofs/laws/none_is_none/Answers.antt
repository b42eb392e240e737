use Rattle.mapf_tree.proofs.solutions.Descent.{none_is_none}
use Rattle.mapf_tree.proofs.laws.none_is_none.Goals as goal

pub returns : goal.returns
returns c = none_is_none
