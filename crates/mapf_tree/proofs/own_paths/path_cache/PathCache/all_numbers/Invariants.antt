use Rattle.std.proofs.Common.{◌≡◌, ◌≤◌, length}
use Rattle.std.specs.Vec.{vec_capacity}
use Rattle.mapf_tree.specs.Prelude.{AreFirstPaths}
use Rattle.mapf_tree.proofs.own_paths.path_cache.PathCache.all_numbers.Given as goal

abbrev pub invariant-loop-agent : goal.invariant-loop-agent
invariant-loop-agent l = (length l.numbers.items ≡ l.agent) × AreFirstPaths l.fn.self.paths l.numbers.items l.node.plan l.agent × (l.agent-end ≤ vec_capacity l.numbers)
