use Rattle.std.proofs.Common.{take, Contains}
use Rattle.std.specs.List.{AllByRecursion}
use Rattle.mapf_optimum.proofs.group_costs.comparing.is_within.Given as goal

abbrev pub invariant-loop-constraint : goal.invariant-loop-constraint
invariant-loop-constraint l = AllByRecursion (Contains l.more) (take l.constraint-index l.few)
