use Rattle.std.proofs.Common.{length}
use Rattle.mapf_grid.specs.Cuts.{IsBeforeBlanks}
use Rattle.mapf_grid.proofs.words.trim_end.Given as goal

abbrev pub invariant-loop-line : goal.invariant-loop-line
invariant-loop-line l = IsBeforeBlanks l.fn.line l.line

abbrev pub decreases-loop-line : goal.decreases-loop-line
decreases-loop-line l = length l.line
