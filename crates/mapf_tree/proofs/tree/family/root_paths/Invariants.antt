use Rattle.std.proofs.Common.{◌≡◌, ℕ, ◌<◌, ◌≤◌, [], length, get_or}
use Rattle.std.specs.Vec.{vec_capacity}
use Rattle.mapf_tree.specs.Prelude.{path_of, IsOwnPath}
use Rattle.mapf_tree.proofs.tree.family.root_paths.Given as goal

abbrev pub invariant-loop-agent : goal.invariant-loop-agent
invariant-loop-agent l =
    (length l.paths.items ≡ l.agent)
    × ((i : ℕ) → i < l.agent → IsOwnPath l.problem.inst.grid (get_or l.problem.inst.starts i 0) (get_or l.problem.inst.goals i 0) l.problem.bound [] (path_of l.paths.items i))
    × (l.agents ≤ vec_capacity l.paths)
