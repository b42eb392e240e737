use Rattle.std.proofs.Common.{◌≢◌, ℕ, ◌<◌, ◌≤◌, MatchOption}
use Rattle.std.specs.Prelude.{⊤}
use Rattle.mapf_plan.specs.declared.conflict.Conflict.{Conflict}
use Rattle.mapf_plan.specs.Plan.{conflict_time}
use Rattle.mapf_plan.specs.FirstConflict.{IsConflictBefore, IsConflictOfTwo, IsEarlier}
use Rattle.mapf_plan.proofs.collisions.first_conflict.first_of_agent.Given as goal

abbrev pub invariant-loop-other : goal.invariant-loop-other
invariant-loop-other g l =
    MatchOption l.known ⊤ (IsConflictBefore l.rule (g.P.AgentPaths.paths l.plan) l.end)
    × ((k : ℕ) → l.others ≤ k → k < l.other → k ≢ l.agent → (c : Conflict) → IsConflictOfTwo l.rule (g.P.AgentPaths.paths l.plan) l.agent k c
    → conflict_time c < l.end → ¬ IsEarlier c l.known)
