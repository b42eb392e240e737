use Rattle.std.proofs.Common.{[], ◌∷◌}
use Rattle.mapf_check.specs.Verdict.{NoFaultBefore}
use Rattle.mapf_check.proofs.checker.bad_step_of.Given as goal

abbrev pub invariant-loop-time : goal.invariant-loop-time
invariant-loop-time l = NoFaultBefore l.instance l.plan (63 ∷ l.agent ∷ l.time ∷ [])
