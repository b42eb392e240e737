use Rattle.std.proofs.Common.{ℕ, ◌<◌, [], get_or, Contains}
use Rattle.std.specs.List.{AllByRecursion}
use Rattle.mapf_optimum.proofs.group_costs.comparing.are_within.Given as goal

abbrev pub invariant-loop-place : goal.invariant-loop-place
invariant-loop-place l = (k : ℕ) → k < l.place → AllByRecursion (Contains (get_or l.more k [])) (get_or l.few k [])
