use Rattle.std.proofs.Common.{◌≡◌, take}
use Rattle.mapf_optimum.specs.FreeTree.{paths_in}
use Rattle.mapf_optimum.proofs.small_group.paths_of.Given as goal

abbrev pub invariant-loop-agent : goal.invariant-loop-agent
invariant-loop-agent g l = l.paths.items ≡ paths_in (g.P.AgentPaths.paths l.plan) (take l.agent-index l.agents)
