use Rattle.std.proofs.Common.{take}
use Rattle.mapf_low.specs.Times.{AreMarked}
use Rattle.mapf_low.proofs.constraints.times.busy_times.Given as goal

abbrev pub invariant-loop-constraint : goal.invariant-loop-constraint
invariant-loop-constraint l = AreMarked (take l.constraint-index l.constraint-items) l.bound l.marks.items
