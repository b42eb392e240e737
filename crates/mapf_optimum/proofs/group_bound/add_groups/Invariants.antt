use Rattle.mapf_optimum.specs.Groups.{AreChosen}
use Rattle.mapf_optimum.proofs.group_bound.add_groups.Given as goal

abbrev pub invariant-loop-place : goal.invariant-loop-place
invariant-loop-place l = AreChosen l.costs l.groups l.taken.items l.sum
