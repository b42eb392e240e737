use Rattle.std.proofs.Common.{◌+◌, arith, sym}
use Rattle.mapf_grid.specs.declared.fault.MapFault.TheVariants.{TextAfterRows}
use Rattle.std.proofs.lemmas.Result.{err_from_is_err_and}
use Rattle.mapf_grid.specs.Lines.{lines_of}
use Rattle.mapf_grid.proofs.map.MapFileSteps.{HasRead-blank, IsMapFault-text, blank-at_end}
use Rattle.mapf_grid.proofs.map.MapFileLaws.{IsMap-one, IsMap-no_memory}
use Rattle.mapf_grid.proofs.map.Map.read.Goals as goal

pub loop-text-preserved : goal.loop-text-preserved
loop-text-preserved c =
    let now = c.loop-text.invariant in
    let high = c.in_ok-rows.ensures.header.height_line in
    record {
      read = HasRead-blank (lines_of c.args.bytes.now) c.in_ok-rows.rows.height high c.loop-text.line c.loop-text.rest.now now.read now.behind
          c.in-Some.text.now c.in-Some.after.now c.in-Some.ensures.line (sym c.if-not-is_blank_line.ensures);
      behind = omega (arith, now.behind);
      few = omega (arith, now.few, c.in-Some.ensures.shorter);
    }

pub returns-in_err-rows-clause-only : goal.returns-in_err-rows-clause-only
returns-in_err-rows-clause-only c g is_map =
    let returned = err_from_is_err_and c.from_residual.result c.from_residual.ensures.1 in
    rw (returned.1, returned.2) (IsMap-no_memory (lines_of c.args.bytes.now) g c.in_err-rows.field-0.0 is_map c.in_err-rows.ensures.fault)

pub returns-then-not-is_blank_line-clause-only : goal.returns-then-not-is_blank_line-clause-only
returns-then-not-is_blank_line-clause-only c g is_map =
    let now = c.loop-text.invariant in
    let high = c.in_ok-rows.ensures.header.height_line in
    let fault = IsMapFault-text (lines_of c.args.bytes.now) c.in_ok-rows.rows.height high c.loop-text.line c.loop-text.rest.now now.read now.behind
    c.in-Some.text.now c.in-Some.after.now c.in-Some.ensures.line (sym c.if-not-is_blank_line.ensures) in
    IsMap-no_memory (lines_of c.args.bytes.now) g (TextAfterRows (c.loop-text.line + 1)) is_map (λ named. fault)

pub returns-clause-read : goal.returns-clause-read
returns-clause-read c =
    let now = c.loop-text.invariant in
    let header = c.in_ok-rows.ensures.header in
    record {
      type_line = header.type_line;
      height_line = header.height_line;
      width_line = header.width_line;
      map_line = header.map_line;
      sizes = record {
        some_width = header.some_width;
        small_width = header.small_width;
        some_height = header.some_height;
        small_height = header.small_height;
        each_cell = c.in_ok-rows.ensures.cells;
      };
      rows = c.in_ok-rows.ensures.rows;
      rest = blank-at_end (lines_of c.args.bytes.now) c.in_ok-rows.rows.height header.height_line c.loop-text.line c.loop-text.rest.now
          now.read now.behind c.in_default.ensures.line;
    }

pub returns-clause-only : goal.returns-clause-only
returns-clause-only c g is_map = IsMap-one (lines_of c.args.bytes.now) _ g (returns-clause-read c) is_map
