use Rattle.std.proofs.Common.{◌≡◌, map, take}
use Rattle.mapf_plan.specs.Path.{cost}
use Rattle.mapf_bounds.proofs.node_groups.costs_of.Given as goal

abbrev pub invariant-loop-agent : goal.invariant-loop-agent
invariant-loop-agent g l = l.costs.items ≡ map cost (take l.agent (g.P.AgentPaths.paths l.paths))
