use Rattle.std.proofs.Common.{ℕ, ◌+◌, ◌<◌}
use Rattle.mapf_grid.specs.Grid.{Next}
use Rattle.mapf_plan.specs.Path.{at}
use Rattle.mapf_optimum.proofs.allowed.goes_by_steps.Given as goal

abbrev pub invariant-loop-time : goal.invariant-loop-time
invariant-loop-time l = (t : ℕ) → t < l.time → Next l.map (at l.path t) (at l.path (t + 1))
