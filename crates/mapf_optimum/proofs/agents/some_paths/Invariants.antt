use Rattle.std.proofs.Common.{◌≡◌, take}
use Rattle.mapf_optimum.specs.FreeTree.{paths_in}
use Rattle.mapf_optimum.proofs.agents.some_paths.Given as goal

abbrev pub invariant-loop-agent : goal.invariant-loop-agent
invariant-loop-agent l = l.some.items ≡ paths_in l.paths (take l.agent-index l.agents)
