use Rattle.std.proofs.Common.{sym, ◌∙◌, subst, arith}
use Rattle.std.specs.Prelude.{decimal}
use Rattle.mapf_plan.proofs.text.Cuts.{Lacks, Lacks-cut, Lacks-decimal, cut_is_one}
use Rattle.mapf_plan.proofs.text.reader.read_place.Goals as goal

pub returns-in_err-column : goal.returns-in_err-column
returns-in_err-column c =
    rw c.from_residual.ensures (λ place is.
    Lacks-cut 44 (decimal place.0) (decimal place.1) (subst (Lacks 44) is.2 c.in_err-column.ensures))

pub returns-in_err-x : goal.returns-in_err-x
returns-in_err-x c =
    rw c.from_residual-in_err-x.ensures (λ place is.
    let found = c.in_ok-column.ensures in
    let cut = cut_is_one 44 c.in_ok-column.column.now c.in_ok-column.row.now (decimal place.0) (decimal place.1)
    found.1 (Lacks-decimal 44 place.0 (omega (arith, is.0)) (omega arith)) (sym found.0 ∙ is.2) in
    c.in_err-x.ensures place.0 is.0 cut.0)

pub returns-in_err-y : goal.returns-in_err-y
returns-in_err-y c =
    rw c.from_residual-in_err-y.ensures (λ place is.
    let found = c.in_ok-column.ensures in
    let cut = cut_is_one 44 c.in_ok-column.column.now c.in_ok-column.row.now (decimal place.0) (decimal place.1)
    found.1 (Lacks-decimal 44 place.0 (omega (arith, is.0)) (omega arith)) (sym found.0 ∙ is.2) in
    c.in_err-y.ensures place.1 is.1 cut.1)
