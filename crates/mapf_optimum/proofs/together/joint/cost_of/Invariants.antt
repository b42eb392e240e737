use Rattle.std.proofs.Common.{◌≤◌, take}
use Rattle.mapf_optimum.specs.PlaceNumbers.{cost_in}
use Rattle.mapf_optimum.proofs.together.joint.cost_of.Given as goal

abbrev pub invariant-loop-agent : goal.invariant-loop-agent
invariant-loop-agent l = l.sum ≤ cost_in (take l.agent l.joint)
