use Rattle.std.proofs.Common.{◌≤◌, take, sum_by}
use Rattle.mapf_optimum.specs.Together.{Agent}
use Rattle.mapf_optimum.proofs.together.least_of.Given as goal

abbrev pub invariant-loop-agent : goal.invariant-loop-agent
invariant-loop-agent l = l.sum ≤ sum_by (λ (a : Agent). a.least) (take l.agent-index l.agents)
