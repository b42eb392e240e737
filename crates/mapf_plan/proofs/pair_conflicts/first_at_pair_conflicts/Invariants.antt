use Rattle.std.proofs.Common.{◌≡◌, ℕ, ◌<◌, get_or, MatchOption}
use Rattle.std.specs.Prelude.{⊤}
use Rattle.mapf_plan.specs.declared.conflict.Conflict.{Conflict}
use Rattle.mapf_plan.specs.declared.pair_conflicts.PairConflict.{PairConflict}
use Rattle.mapf_plan.specs.Plan.{first_agent, second_agent}
use Rattle.mapf_plan.specs.FirstConflict.{IsConflictAt, IsEarlier}
use Rattle.mapf_plan.proofs.pair_conflicts.first_at_pair_conflicts.Given as goal

abbrev pub invariant-loop-conflict : goal.invariant-loop-conflict
invariant-loop-conflict g l =
    MatchOption l.known ⊤ (IsConflictAt l.rule (g.P.AgentPaths.paths l.plan) l.time)
    × ((m : PairConflict) (k : ℕ) → k < l.conflict-index → get_or l.conflicts k m ≡ m → m.time ≡ l.time → (c : Conflict) → IsConflictAt l.rule (g.P.AgentPaths.paths l.plan) l.time c
    → first_agent c ≡ m.first → second_agent c ≡ m.second → ¬ IsEarlier c l.known)
