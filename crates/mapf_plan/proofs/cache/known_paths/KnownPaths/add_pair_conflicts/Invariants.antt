use Rattle.std.proofs.Common.{◌≡◌, ◌≢◌, ℕ, ◌<◌, ◌≤◌}
use Rattle.std.specs.Prelude.{slice_index}
use Rattle.mapf_plan.specs.KnownPaths.{AreMet}
use Rattle.mapf_plan.specs.PairConflicts.{HasAllOf}
use Rattle.mapf_plan.proofs.cache.known_paths.KnownPaths.add_pair_conflicts.Given as goal

abbrev pub invariant-loop-other : goal.invariant-loop-other
invariant-loop-other l =
    (l.self ≡ l.fn.self) × HasAllOf l.conflicts.items l.fn.conflicts.items
    × ((k : ℕ) → l.from ≤ k → k < l.other → k ≢ l.agent → AreMet l.fn.self l.agent l.number k (slice_index l.numbers k) l.conflicts.items)
