use Rattle.std.proofs.Common.{◌≡◌, ◌≤◌, length, take, map}
use Rattle.std.specs.Vec.{vec_capacity}
use Rattle.mapf_tree.proofs.node.current_paths.CurrentPaths.of.Given as goal

abbrev pub invariant-loop-path : goal.invariant-loop-path
invariant-loop-path l =
    (map (λ path. path.now) l.paths.items ≡ take l.path-index l.path-items)
    × (length l.paths.items ≡ l.path-index) × (length l.path-items ≤ vec_capacity l.paths)
