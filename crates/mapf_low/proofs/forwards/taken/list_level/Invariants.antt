use Rattle.std.proofs.Common.{take}
use Rattle.mapf_low.specs.Forwards.Taken.{Lists}
use Rattle.mapf_low.proofs.forwards.taken.list_level.Given as goal

abbrev pub invariant-loop-cell : goal.invariant-loop-cell
invariant-loop-cell l = Lists l.query.table l.sum (take l.cell-index l.cell-items) l.fn.states.items l.states.items
