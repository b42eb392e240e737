use Rattle.std.proofs.Common.{◌≡◌, ℕ, ◌<◌, false, get_or}
use Rattle.mapf_optimum.proofs.group_bound.are_free.Given as goal

abbrev pub invariant-loop-agent : goal.invariant-loop-agent
invariant-loop-agent l = (k : ℕ) → k < l.agent-index → get_or l.taken (get_or l.agents k 0) false ≡ false
