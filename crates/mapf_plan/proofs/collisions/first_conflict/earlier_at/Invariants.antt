use Rattle.std.proofs.Common.{◌≡◌, ◌<◌, MatchOption}
use Rattle.std.specs.Prelude.{⊤}
use Rattle.mapf_plan.specs.declared.conflict.Conflict.{Conflict}
use Rattle.mapf_plan.specs.Plan.{first_agent, second_agent}
use Rattle.mapf_plan.specs.FirstConflict.{IsConflictAt, IsEarlier}
use Rattle.mapf_plan.proofs.collisions.first_conflict.earlier_at.Given as goal

abbrev pub invariant-loop-other : goal.invariant-loop-other
invariant-loop-other g l =
    MatchOption l.earliest ⊤ (IsConflictAt l.rule (g.P.AgentPaths.paths l.plan) l.time)
    × ((c : Conflict) → IsEarlier c l.earliest → IsEarlier c l.fn.known)
    × ((c : Conflict) → IsConflictAt l.rule (g.P.AgentPaths.paths l.plan) l.time c → second_agent c ≡ l.agent → first_agent c < l.other → ¬ IsEarlier c l.earliest)
