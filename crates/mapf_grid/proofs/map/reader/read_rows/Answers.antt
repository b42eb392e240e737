use Rattle.std.proofs.Common.{◌≡◌, ◌+◌, ◌<◌, ◌++◌, map, arith}
use Rattle.std.proofs.lemmas.Result.{err_from_is_err_and}
use Rattle.mapf_grid.specs.Lines.{line_at, lines_of}
use Rattle.mapf_grid.specs.MapFile.{is_ground}
use Rattle.mapf_grid.proofs.map.MapFileSteps.{IsMapFault-missing_row, IsMapFault-wrong_row, HasRead-row, line_at-row}
use Rattle.mapf_grid.proofs.map.RowCells.{IsRow-more, length-free-more}
use Rattle.mapf_grid.proofs.map.reader.read_rows.Goals as goal

pub returns-in_default-clause-fault : goal.returns-in_default-clause-fault
returns-in_default-clause-fault c named =
    IsMapFault-missing_row (lines_of c.args.bytes.now) c.in_ok-header.header.height c.in_ok-header.header.width c.in_ok-header.ensures.header c.loop-y.y (omega arith)
    c.loop-y.rest.now c.loop-y.invariant.read c.in_default.ensures.line

pub returns-in_err-read_row-clause-fault : goal.returns-in_err-read_row-clause-fault
returns-in_err-read_row-clause-fault c =
    let returned = err_from_is_err_and c.from_residual-in_err-read_row.result c.from_residual-in_err-read_row.ensures.1 in
    rw (returned.1, returned.2)
    (IsMapFault-wrong_row (lines_of c.args.bytes.now) c.in_ok-header.header.height c.in_ok-header.header.width c.in_ok-header.ensures.header c.loop-y.y (omega arith)
    c.loop-y.rest.now c.loop-y.invariant.read c.in-Some.row.now c.in-Some.after.now c.in-Some.ensures.line
    c.in_err-read_row.field-0.0 c.in_err-read_row.ensures.fault)

pub loop-y-preserved : goal.loop-y-preserved
loop-y-preserved c =
    let y = c.loop-y.y in
    let w = c.in_ok-header.header.width in
    let h = c.in_ok-header.header.height in
    let row = c.in-Some.row.now in
    let after = c.in-Some.after.now in
    let free = c.loop-y.free.items in
    let rest = c.loop-y.rest.now in
    let now = c.loop-y.invariant in
    let read = c.in_ok-read_row.ensures in
    let below : y < h = omega arith in
    let cut = c.in-Some.ensures.line in
    let added : c.read_row.new.free.items ≡ free ++ map is_ground row = read.added in
    let at : line_at (lines_of c.args.bytes.now) (y + 5) ≡ row = line_at-row (lines_of c.args.bytes.now) h w c.in_ok-header.ensures.header y below rest now.read row after cut in
    rw added (record {
      read = HasRead-row (lines_of c.args.bytes.now) h w c.in_ok-header.ensures.header y below rest now.read row after cut read.exact read.cells;
      cells = length-free-more w h free row y now.cells read.exact;
      rows = IsRow-more w h free row (lines_of c.args.bytes.now) y now.rows now.cells read.exact read.cells at;
    })
