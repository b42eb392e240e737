use Rattle.std.proofs.Common.{◌≡◌, length}
use Rattle.std.specs.List.{list_all}
use Rattle.mapf_grid.specs.Lines.{lines_of, is_blank_line}
use Rattle.mapf_grid.proofs.scenario.reader.are_blank_lines.Given as goal

abbrev pub invariant-loop-line : goal.invariant-loop-line
invariant-loop-line l = list_all is_blank_line (lines_of l.rest) ≡ list_all is_blank_line (lines_of l.fn.rest)

abbrev pub decreases-loop-line : goal.decreases-loop-line
decreases-loop-line l = length l.rest
