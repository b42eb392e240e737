use Rattle.std.proofs.Common.{◌≡◌, ℕ, ◌<◌, ◌≤◌, [], length, get_or}
use Rattle.std.specs.Vec.{vec_capacity}
use Rattle.mapf_tree.specs.Prelude.{AreDistances}
use Rattle.mapf_tree.proofs.tree.problem.distances_to_goals.Given as goal

abbrev pub invariant-loop-agent : goal.invariant-loop-agent
invariant-loop-agent l =
    (length l.distances.items ≡ l.agent)
    × ((i : ℕ) → i < l.agent → AreDistances l.instance.grid (get_or l.instance.goals i 0) (get_or l.distances.items i []))
    × (l.agent-end ≤ vec_capacity l.distances)
