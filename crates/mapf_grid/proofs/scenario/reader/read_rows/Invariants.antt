use Rattle.std.proofs.Common.{length}
use Rattle.mapf_grid.proofs.scenario.FileFaults.{HaveRead}
use Rattle.mapf_grid.proofs.scenario.reader.read_rows.Given as goal

abbrev pub invariant-loop-line : goal.invariant-loop-line
invariant-loop-line l = HaveRead l.fn.rest l.rest l.rows.items

abbrev pub decreases-loop-line : goal.decreases-loop-line
decreases-loop-line l = length l.rest
