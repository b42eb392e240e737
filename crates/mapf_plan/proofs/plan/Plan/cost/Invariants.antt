use Rattle.std.proofs.Common.{◌≡◌, ◌≤◌, ◌*◌, take}
use Rattle.std.specs.Prelude.{sum_by}
use Rattle.mapf_plan.specs.Path.{cost}
use Rattle.mapf_plan.proofs.plan.Plan.cost.Given as goal
use Rattle.mapf_plan.specs.declared.answer.TheConstants.{MOST_BOUND}

abbrev pub invariant-loop-path : goal.invariant-loop-path
invariant-loop-path l = (l.sum ≡ sum_by cost (take l.path-index l.path-items)) × (l.sum ≤ MOST_BOUND * l.path-index)
