use Rattle.std.proofs.Common.{◌≡◌, ℕ, ◌<◌, length}
use Rattle.std.specs.Prelude.{slice_index}
use Rattle.mapf_plan.specs.KnownPaths.{AreMet}
use Rattle.mapf_plan.proofs.cache.known_paths.KnownPaths.plan.Given as goal

abbrev pub invariant-loop-agent : goal.invariant-loop-agent
invariant-loop-agent l =
    (l.self ≡ l.fn.self)
    × ((i k : ℕ) → i < l.agent → i < k → k < length l.numbers → AreMet l.fn.self i (slice_index l.numbers i) k (slice_index l.numbers k) l.conflicts.items)
