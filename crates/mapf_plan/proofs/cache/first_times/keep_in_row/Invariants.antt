use Rattle.std.proofs.Common.{◌≡◌, ◌≤◌, ℕ, length}
use Rattle.mapf_plan.specs.KnownPaths.{time_in}
use Rattle.mapf_plan.proofs.cache.first_times.keep_in_row.Given as goal

abbrev pub invariant-loop-entry : goal.invariant-loop-entry
invariant-loop-entry l = (l._entry ≤ length l.row.items) × ((j : ℕ) → time_in l.row.items j ≡ time_in l.fn.row.items j)
