use Rattle.std.proofs.Common.{[], ◌∷◌}
use Rattle.mapf_check.specs.Verdict.{NoFaultBefore}
use Rattle.mapf_check.proofs.checker.ends_late.Given as goal

abbrev pub invariant-loop-agent : goal.invariant-loop-agent
invariant-loop-agent l = NoFaultBefore l.instance l.plan (65 ∷ l.agent ∷ [])
