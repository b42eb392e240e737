use Rattle.std.proofs.Common.{◌≢◌, ℕ, ◌<◌, ◌≤◌}
use Rattle.std.specs.Prelude.{slice_index}
use Rattle.mapf_plan.specs.KnownPaths.{time_in, IsAdded}
use Rattle.mapf_plan.specs.PairConflicts.{HasAllOf}
use Rattle.mapf_plan.proofs.cache.first_times.add_known.Given as goal

abbrev pub invariant-loop-other : goal.invariant-loop-other
invariant-loop-other l =
    HasAllOf l.conflicts.items l.fn.conflicts.items
    × ((k : ℕ) → l.from ≤ k → k < l.other → k ≢ l.agent → IsAdded l.agent k (time_in l.row (slice_index l.numbers k)) l.conflicts.items)
