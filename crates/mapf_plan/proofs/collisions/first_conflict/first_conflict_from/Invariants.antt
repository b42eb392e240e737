use Rattle.std.proofs.Common.{[], ◌∷◌}
use Rattle.mapf_grid.specs.Least.{NoneBefore}
use Rattle.mapf_plan.specs.Plan.{conflict_rank, IsConflict}
use Rattle.mapf_plan.proofs.collisions.first_conflict.first_conflict_from.Given as goal

abbrev pub invariant-loop-step : goal.invariant-loop-step
invariant-loop-step g l = NoneBefore conflict_rank (IsConflict l.rule (g.P.AgentPaths.paths l.plan)) (l.step ∷ [])
