use Rattle.std.proofs.Common.{◌+◌, ◌≤◌, length}
use Rattle.mapf_grid.specs.Lines.{lines_of}
use Rattle.mapf_grid.specs.MapReading.{HasRead}
use Rattle.mapf_grid.proofs.map.Map.read.Given as goal

-- the lines up to this one have no fault
abbrev pub invariant-loop-text : goal.invariant-loop-text
invariant-loop-text l = record {
  read : HasRead (lines_of l.fn.bytes) l.line l.rest;
  behind : 4 + l.rows.height ≤ l.line;
  few : l.line + length l.rest ≤ 4 + l.rows.height + length l.initial.rest;
}

abbrev pub decreases-loop-text : goal.decreases-loop-text
decreases-loop-text l = length l.rest
