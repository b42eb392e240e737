use Rattle.std.proofs.Common.{Some, sym, ap, ◌∙◌, arith}
use Rattle.mapf_grid.proofs.DigitWords.{nine_digits, number_from_digits, no_number}
use Rattle.mapf_grid.proofs.lines.number.Goals as goal

pub returns-in_err-value : goal.returns-in_err-value
returns-in_err-value c = c.from_residual.ensures ∙ sym (no_number c.args.word.now c.in_err-value.ensures.some)

pub overflow_cast-result : goal.overflow_cast-result
overflow_cast-result c =
    let found = c.in_ok-value.ensures.some in omega (arith, nine_digits c.args.word.now found.0.1 found.0.2, found.1)

pub returns : goal.returns
returns c =
    let found = c.in_ok-value.ensures.some in
    ap Some found.1 ∙ sym (number_from_digits c.args.word.now found.0.0 found.0.1 found.0.2)
