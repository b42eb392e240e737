use Rattle.std.proofs.Common.{◌<◌, MatchOption}
use Rattle.std.specs.Prelude.{⊤}
use Rattle.mapf_plan.specs.declared.conflict.Conflict.{Conflict}
use Rattle.mapf_plan.specs.Plan.{first_agent}
use Rattle.mapf_plan.specs.FirstConflict.{IsConflictBefore, IsEarlier}
use Rattle.mapf_plan.proofs.collisions.first_conflict.first_by_pairs.Given as goal

abbrev pub invariant-loop-agent : goal.invariant-loop-agent
invariant-loop-agent g l =
    MatchOption l.known ⊤ (IsConflictBefore l.rule (g.P.AgentPaths.paths l.plan) l.end)
    × ((c : Conflict) → IsConflictBefore l.rule (g.P.AgentPaths.paths l.plan) l.end c → first_agent c < l.agent → ¬ IsEarlier c l.known)
