use Rattle.mapf_optimum.specs.FreeTree.{IsLowerBoundOf}
use Rattle.mapf_optimum.specs.Groups.{alone}
use Rattle.mapf_optimum.proofs.group_costs.GroupCosts.least_under_fewer.Given as goal

abbrev pub invariant-loop-tried : goal.invariant-loop-tried
invariant-loop-tried l = IsLowerBoundOf (alone l.part) l.sets l.least
