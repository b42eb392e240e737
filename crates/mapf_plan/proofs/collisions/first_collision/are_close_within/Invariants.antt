use Rattle.std.proofs.Common.{ℕ, ◌<◌, ◌≤◌}
use Rattle.std.specs.Prelude.{IsFalse}
use Rattle.mapf_plan.specs.Path.{AreApart}
use Rattle.mapf_plan.proofs.collisions.first_collision.are_close_within.Given as goal

abbrev pub invariant-loop-time : goal.invariant-loop-time
invariant-loop-time l = IsFalse l.met → (t : ℕ) → l.from ≤ t → t < l.time → AreApart l.one l.other t
