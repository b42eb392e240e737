use Rattle.std.proofs.Common.{take}
use Rattle.std.specs.List.{AllByRecursion}
use Rattle.mapf_low.specs.Constraints.{Breaks}
use Rattle.mapf_optimum.proofs.allowed.obeys.Given as goal

abbrev pub invariant-loop-constraint : goal.invariant-loop-constraint
invariant-loop-constraint l = AllByRecursion (λ c. ¬ Breaks l.path c) (take l.constraint-index l.constraint-items)
