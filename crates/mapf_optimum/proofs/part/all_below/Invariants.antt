use Rattle.std.proofs.Common.{◌≡◌, ℕ, ◌<◌, length, get_or}
use Rattle.mapf_optimum.proofs.part.all_below.Given as goal

abbrev pub invariant-loop-agent : goal.invariant-loop-agent
invariant-loop-agent l = record {
  long : length l.all.items ≡ l.agent;
  each : (i : ℕ) → i < l.agent → get_or l.all.items i 0 ≡ i;
}
