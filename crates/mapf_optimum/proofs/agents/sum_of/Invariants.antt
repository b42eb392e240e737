use Rattle.std.proofs.Common.{◌≡◌, ◌≤◌, ◌*◌, take}
use Rattle.std.specs.List.{sum_by}
use Rattle.mapf_optimum.proofs.agents.sum_of.Given as goal

abbrev pub invariant-loop-cost : goal.invariant-loop-cost
invariant-loop-cost l = record {
  adds : l.sum ≡ sum_by (λ c. c) (take l.cost-index l.costs);
  small : l.sum ≤ l.cost-index * 4294967295;
}
