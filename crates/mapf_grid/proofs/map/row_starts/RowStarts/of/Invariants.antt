use Rattle.std.proofs.Common.{◌≡◌, ◌%◌, length}
use Rattle.mapf_grid.specs.RowStarts.{AreRowStarts}
use Rattle.mapf_grid.proofs.map.row_starts.RowStarts.of.Given as goal

abbrev pub invariant-loop-row : goal.invariant-loop-row
invariant-loop-row l = (length l.starts.items % l.width ≡ 0) × AreRowStarts l.width l.starts.items
