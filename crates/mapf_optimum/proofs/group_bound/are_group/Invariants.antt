use Rattle.std.proofs.Common.{◌≢◌, ℕ, ◌<◌, ◌≤◌, get_or}
use Rattle.mapf_optimum.proofs.group_bound.are_group.Given as goal

abbrev pub invariant-loop-agent : goal.invariant-loop-agent
invariant-loop-agent l = record {
  few : l.next ≤ l.count;
  below : (k : ℕ) → k < l.agent-index → get_or l.agents k 0 < l.next;
  once : (i j : ℕ) → i < j → j < l.agent-index → get_or l.agents i 0 ≢ get_or l.agents j 0;
}
