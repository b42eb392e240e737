use Rattle.std.proofs.Common.{length}
use Rattle.mapf_grid.specs.Cuts.{IsBehindBlanks}
use Rattle.mapf_grid.proofs.words.trim_start.Given as goal

abbrev pub invariant-loop-line : goal.invariant-loop-line
invariant-loop-line l = IsBehindBlanks l.fn.line l.line

abbrev pub decreases-loop-line : goal.decreases-loop-line
decreases-loop-line l = length l.line
