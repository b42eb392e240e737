use Rattle.std.proofs.Common.{◌-◌}
use Rattle.mapf_plan.specs.Collisions.{DontCollideBefore}
use Rattle.mapf_plan.proofs.collisions.first_collision.first_while_both_move.Given as goal

abbrev pub invariant-loop-start : goal.invariant-loop-start
invariant-loop-start l = DontCollideBefore l.rule l.one l.other l.start

abbrev pub decreases-loop-start : goal.decreases-loop-start
decreases-loop-start l = l.end - l.start
