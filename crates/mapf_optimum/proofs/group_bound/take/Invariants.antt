use Rattle.std.proofs.Common.{◌≡◌, ℕ, ◌<◌, false, true, length, get_or}
use Rattle.mapf_optimum.proofs.group_bound.take.Given as goal

abbrev pub invariant-loop-agent : goal.invariant-loop-agent
invariant-loop-agent l = record {
  same : length l.taken.items ≡ length l.fn.taken.items;
  marked : (k : ℕ) → k < l.agent-index → get_or l.taken.items (get_or l.agents k 0) false ≡ true;
  stays : (i : ℕ) → get_or l.fn.taken.items i false ≡ true → get_or l.taken.items i false ≡ true;
}
