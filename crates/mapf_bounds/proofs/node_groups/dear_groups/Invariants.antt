use Rattle.mapf_bounds.specs.Groups.{Follow}
use Rattle.mapf_bounds.proofs.node_groups.dear_groups.Given as goal

abbrev pub invariant-loop-place : goal.invariant-loop-place
invariant-loop-place l = Follow l.groups l.kept.items
