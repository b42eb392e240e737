use Rattle.std.proofs.Common.{◌≡◌, ◌^◌, ◌-◌, min, take}
use Rattle.std.specs.List.{sum_by}
use Rattle.mapf_optimum.specs.Groups.{costs_in}
use Rattle.mapf_optimum.proofs.group_bound.sum_alone.Given as goal

abbrev pub invariant-loop-agent : goal.invariant-loop-agent
invariant-loop-agent l = l.sum ≡ min (sum_by (λ c. c) (costs_in l.costs (take l.agent-index l.agents))) (2 ^ 64 - 1)
