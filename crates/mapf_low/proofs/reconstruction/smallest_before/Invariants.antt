use Rattle.std.proofs.Common.{take, ◌+◌, Contains}
use Rattle.mapf_low.specs.declared.constraint.Constraint.TheVariants.{Edge}
use Rattle.mapf_low.specs.Best.{IsSmallest}
use Rattle.mapf_low.proofs.reconstruction.smallest_before.Given as goal

abbrev pub invariant-loop-from : goal.invariant-loop-from
invariant-loop-from g l = IsSmallest (λ u. Contains (take l.from-index l.from-items) u × (g.R.Reached.has l.reached l.time u × (¬ Contains l.query.constraints (Edge u l.cell (l.time + 1))))) l.smallest
