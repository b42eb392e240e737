use Rattle.std.proofs.Common.{ℕ, ◌<◌, ◌≤◌}
use Rattle.mapf_plan.specs.Path.{cost}
use Rattle.mapf_plan.specs.Plan.{path_of}
use Rattle.mapf_plan.specs.declared.answer.TheConstants.{MOST_BOUND}
use Rattle.mapf_plan.proofs.collisions.first_conflict.longest.Given as goal

abbrev pub invariant-loop-agent : goal.invariant-loop-agent
invariant-loop-agent g l =
    (l.longest ≤ MOST_BOUND) × ((i : ℕ) → i < l.agent → cost (path_of (g.P.AgentPaths.paths l.plan) i) ≤ l.longest)
