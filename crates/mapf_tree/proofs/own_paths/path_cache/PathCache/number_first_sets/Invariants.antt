use Rattle.std.proofs.Common.{◌≡◌, [], ℕ, ◌<◌, ◌≤◌, length}
use Rattle.std.specs.Vec.{vec_capacity}
use Rattle.mapf_tree.specs.Prelude.{slice_index, HasSet}
use Rattle.mapf_tree.proofs.own_paths.path_cache.PathCache.number_first_sets.Given as goal

abbrev pub invariant-loop-agent : goal.invariant-loop-agent
invariant-loop-agent l =
    (l.self.problem ≡ l.fn.self.problem) × (length l.firsts.items ≡ l.agent) × ((k : ℕ) → k < l.agent → HasSet l.self.sets (slice_index l.firsts.items k) k [])
    × (l.agent-end ≤ vec_capacity l.firsts)
