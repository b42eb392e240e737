use Rattle.std.proofs.Common.{◌≡◌, take}
use Rattle.mapf_optimum.specs.Groups.{costs_in}
use Rattle.mapf_optimum.proofs.agents.some_costs.Given as goal

abbrev pub invariant-loop-agent : goal.invariant-loop-agent
invariant-loop-agent l = l.some.items ≡ costs_in l.costs (take l.agent-index l.agents)
