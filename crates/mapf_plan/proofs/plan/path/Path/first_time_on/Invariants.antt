use Rattle.std.proofs.Common.{◌≡◌, ℕ, ◌<◌, ◌≤◌}
use Rattle.mapf_plan.specs.Path.{at}
use Rattle.mapf_plan.proofs.plan.path.Path.first_time_on.Given as goal

abbrev pub invariant-loop-time : goal.invariant-loop-time
invariant-loop-time l = (t : ℕ) → l.from ≤ t → t < l.time → ¬ (at l.self t ≡ l.cell)
