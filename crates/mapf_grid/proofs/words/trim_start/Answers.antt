use Rattle.std.proofs.Common.{rules, arith}
use Rattle.mapf_grid.proofs.lines.Parting.{IsBehindBlanks-more}
use Rattle.mapf_grid.proofs.words.trim_start.Goals as goal

pub loop-line-preserved : goal.loop-line-preserved
loop-line-preserved c = IsBehindBlanks-more c.loop-line.invariant (omega arith) (search rules)
