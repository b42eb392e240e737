use Rattle.std.proofs.Common.{◌≡◌, take}
use Rattle.mapf_optimum.specs.Groups.{sets_in}
use Rattle.mapf_optimum.proofs.agents.some_sets.Given as goal

abbrev pub invariant-loop-agent : goal.invariant-loop-agent
invariant-loop-agent l = l.some.items ≡ sets_in l.sets (take l.agent-index l.agents)
