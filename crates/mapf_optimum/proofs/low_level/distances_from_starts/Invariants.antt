use Rattle.std.proofs.Common.{◌≡◌, ℕ, ◌<◌, ◌≤◌, [], length, get_or}
use Rattle.std.specs.Vec.{vec_capacity}
use Rattle.mapf_low.specs.Walk.{AreDistances}
use Rattle.mapf_optimum.proofs.low_level.distances_from_starts.Given as goal

abbrev pub invariant-loop-agent : goal.invariant-loop-agent
invariant-loop-agent l = record {
  long : length l.tables.items ≡ l.agent;
  room : length l.instance.starts ≤ vec_capacity l.tables;
  shortest : (i : ℕ) → i < l.agent → AreDistances l.instance.grid (get_or l.instance.starts i 0) (get_or l.tables.items i []);
}
