use Rattle.mapf_optimum.specs.Groups.{AreOf}
use Rattle.mapf_optimum.proofs.group_bound.groups_without.Given as goal

abbrev pub invariant-loop-group : goal.invariant-loop-group
invariant-loop-group l = AreOf l.groups l.kept.items
