use Rattle.mapf_bounds.proofs.Subtrees.{plans_bound_cost}
use Rattle.mapf_bounds.proofs.laws.plans_bound_cost.Goals as goal

pub returns : goal.returns
returns c = plans_bound_cost
