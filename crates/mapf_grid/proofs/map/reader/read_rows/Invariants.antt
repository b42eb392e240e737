use Rattle.std.proofs.Common.{◌≡◌, ℕ, ◌+◌, ◌*◌, ◌<◌, length}
use Rattle.mapf_grid.specs.Lines.{line_at, lines_of}
use Rattle.mapf_grid.specs.MapFile.{IsRow}
use Rattle.mapf_grid.specs.MapReading.{HasRead}
use Rattle.mapf_grid.proofs.map.reader.read_rows.Given as goal

-- the rows so far were read, and each of their bytes is a cell
abbrev pub invariant-loop-y : goal.invariant-loop-y
invariant-loop-y l = record {
  read : HasRead (lines_of l.fn.bytes) (4 + l.y) l.rest;
  cells : length l.free.items ≡ l.y * l.header.width;
  rows : (y : ℕ) → y < l.y → IsRow (record { width = l.header.width; height = l.header.height; free = l.free.items }) y (line_at (lines_of l.fn.bytes) (y + 5));
}
