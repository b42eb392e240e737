use Rattle.std.proofs.Common.{◌≡◌, ℕ, ◌<◌, [], length, get_or}
use Rattle.mapf_tree.specs.Nodes.{IsSameSet}
use Rattle.mapf_bounds.proofs.node_groups.sets_of.Given as goal

abbrev pub invariant-loop-agent : goal.invariant-loop-agent
invariant-loop-agent l = record {
  long : length l.sets.items ≡ l.agent-index;
  each : (k : ℕ) → k < l.agent-index → IsSameSet (get_or l.sets.items k []) (get_or l.node.constraints (get_or l.agents k 0) []);
}
