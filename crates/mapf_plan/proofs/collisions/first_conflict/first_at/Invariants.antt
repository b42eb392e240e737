use Rattle.std.proofs.Common.{ℕ, ◌-◌, ◌<◌, MatchOption}
use Rattle.std.specs.Prelude.{⊤}
use Rattle.mapf_plan.specs.declared.conflict.Conflict.{Conflict}
use Rattle.mapf_plan.specs.Plan.{second_agent, place}
use Rattle.mapf_plan.specs.FirstConflict.{IsConflictAt, IsEarlier}
use Rattle.mapf_plan.specs.Marks.{IsMarked, beside}
use Rattle.mapf_plan.proofs.collisions.first_conflict.first_at.Given as goal

abbrev pub invariant-loop-agent : goal.invariant-loop-agent
invariant-loop-agent g l =
    MatchOption l.known ⊤ (IsConflictAt l.rule (g.P.AgentPaths.paths l.plan) l.time)
    × ((c : Conflict) → IsConflictAt l.rule (g.P.AgentPaths.paths l.plan) l.time c → second_agent c < l.agent → ¬ IsEarlier c l.known)
    × ((k : ℕ) → k < l.agent → IsMarked l.marks l.round (place (g.P.AgentPaths.paths l.plan) k l.time))
    × ((k : ℕ) → k < l.agent → IsMarked l.marks l.round (beside l.rule (place (g.P.AgentPaths.paths l.plan) k (l.time - 1)) (place (g.P.AgentPaths.paths l.plan) k l.time)))
