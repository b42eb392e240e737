use Rattle.std.proofs.Common.{◌≡◌, ◌-◌}
use Rattle.mapf_plan.specs.Path.{at}
use Rattle.mapf_plan.specs.Collisions.{DontCollideBefore}
use Rattle.mapf_plan.proofs.collisions.first_collision.first_step_by_step.Given as goal

abbrev pub invariant-loop-time : goal.invariant-loop-time
invariant-loop-time l =
    DontCollideBefore l.rule l.one l.other l.time × (l.one_was ≡ at l.one (l.time - 1)) × (l.other_was ≡ at l.other (l.time - 1))
