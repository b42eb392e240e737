use Rattle.std.proofs.Common.{◌≡◌, ℕ, ◌<◌, false, length, get_or}
use Rattle.mapf_low.specs.Distances.Mark.{blocked, first_mark}
use Rattle.mapf_low.proofs.distances.first_marks.Given as goal

-- each cell so far has its mark
abbrev pub invariant-loop-place : goal.invariant-loop-place
invariant-loop-place l = record {
  each : length l.marks.items ≡ length l.free;
  so_far : (k : ℕ) → k < l.place → get_or l.marks.items k blocked ≡ first_mark (get_or l.free k false);
}
