use Rattle.std.proofs.Common.{◌≡◌, ◌+◌, length, arith, eqb, false, sym, ◌∙◌}
use Rattle.std.proofs.lemmas.Bool.{eqb-false}
use Rattle.std.proofs.lemmas.List.{take_rest}
use Rattle.mapf_grid.proofs.lines.LineCuts.{lines_of-at_lf, lines_of-without_lf}
use Rattle.mapf_grid.proofs.lines.first_line.Goals as goal

pub returns-in-Some-clause-line : goal.returns-in-Some-clause-line
returns-in-Some-clause-line c =
    let bytes = c.args.bytes.now in
    let cut = lines_of-at_lf bytes c.in-Some.end (sym c.position_of_lf.ensures ∙ c.in-Some.is) in
    rw (take_rest bytes (c.in-Some.end + 1), c.trim_cr.ensures) cut

pub returns-in-None-clause-line : goal.returns-in-None-clause-line
returns-in-None-clause-line c =
    let bytes = c.args.bytes.now in
    let some : eqb (length bytes) 0 ≡ false = sym c.if-is_empty.ensures in
    let cut = lines_of-without_lf bytes (sym c.position_of_lf.ensures ∙ c.in-None.is) (omega (arith, eqb-false _ _ some)) in
    rw c.trim_cr-in-None.ensures cut
