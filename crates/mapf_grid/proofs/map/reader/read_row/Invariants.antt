use Rattle.std.proofs.Common.{◌≡◌, ◌++◌, map, take}
use Rattle.mapf_grid.specs.MapFile.{is_ground}
use Rattle.mapf_grid.specs.MapReading.{AreCellBytes}
use Rattle.mapf_grid.proofs.map.reader.read_row.Given as goal

-- the bytes so far are cells, and were added
abbrev pub invariant-loop-x : goal.invariant-loop-x
invariant-loop-x l = record {
  cells : AreCellBytes l.row l.x;
  added : l.free.items ≡ l.fn.free.items ++ map is_ground (take l.x l.row);
}
