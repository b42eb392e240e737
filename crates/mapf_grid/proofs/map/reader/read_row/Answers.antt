use Rattle.std.proofs.Common.{◌≡◌, ◌<◌, true, length, get_or, take, is_ok, arith, sym, ap, ◌∙◌}
use Rattle.std.proofs.lemmas.Bool.{cond-true}
use Rattle.std.proofs.lemmas.List.{get_or-take, length-take}
use Rattle.mapf_grid.specs.MapFile.{is_cell, is_ground}
use Rattle.mapf_grid.proofs.map.RowCells.{AreCellBytes-more, IsMapRowFault-bad_cell, map-is_ground-more}
use Rattle.mapf_grid.proofs.map.reader.read_row.Goals as goal

pub loop-x-preserved : goal.loop-x-preserved
loop-x-preserved c =
    let row = c.args.row.now in
    let x = c.loop-x.x in
    let cut = length-take c.min.result row in
    let within : x < c.min.result = omega (arith, cut) in
    let there : x < length row = omega (arith, cut) in
    let byte : get_or (take c.min.result row) x 0 ≡ get_or row x 0 = get_or-take c.min.result row x 0 within in
    let pushed : is_ok c.push.result ≡ true = sym c.map_err.ensures.variant ∙ ap is_ok c.in_ok-map_err.was in
    record {
      cells = AreCellBytes-more row x c.loop-x.invariant.cells (sym (ap is_cell byte) ∙ c.in-Some.ensures.0);
      added = map-is_ground-more c.args.free.now.items c.loop-x.free.items c.push.new.self.items row x c.in-Some.is_ground there
          c.loop-x.invariant.added (c.in-Some.ensures.1 ∙ ap is_ground byte) (c.push.ensures.items ∙ cond-true _ _ _ pushed);
    }

pub returns-in_default-clause-fault : goal.returns-in_default-clause-fault
returns-in_default-clause-fault c =
    let row = c.args.row.now in
    let x = c.loop-x.x in
    let cut = length-take c.min.result row in
    let within : x < c.min.result = omega (arith, cut) in
    let byte : get_or (take c.min.result row) x 0 ≡ get_or row x 0 = get_or-take c.min.result row x 0 within in
    IsMapRowFault-bad_cell row c.args.line c.args.width x (get_or (take c.min.result row) x 0) c.loop-x.invariant.cells
    (omega (arith, cut)) (omega (arith, within)) byte c.in_default.ensures
