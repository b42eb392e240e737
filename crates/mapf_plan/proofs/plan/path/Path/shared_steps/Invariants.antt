use Rattle.std.proofs.Common.{◌≡◌, ℕ, ◌<◌}
use Rattle.mapf_plan.specs.Path.{at}
use Rattle.mapf_plan.proofs.plan.path.Path.shared_steps.Given as goal

abbrev pub invariant-loop-time : goal.invariant-loop-time
invariant-loop-time l = (s : ℕ) → s < l.time → at l.self s ≡ at l.other s
