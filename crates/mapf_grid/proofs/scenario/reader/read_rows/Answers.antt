use Rattle.std.proofs.Common.{◌≡◌, ◌+◌, ◌++◌, ◌∷◌, [], length, sym, subst, ◌∙◌, arith}
use Rattle.std.proofs.lemmas.Grind.{common_steps}
use Rattle.std.proofs.lemmas.Result.{err_from_is_err_and}
use Rattle.mapf_grid.specs.Lines.{lines_of}
use Rattle.mapf_grid.specs.ScenarioFile.{IsScenFault}
use Rattle.mapf_grid.specs.RowFields.{IsScenarioRowFault}
use Rattle.mapf_grid.specs.declared.fault.ScenFault.TheVariants.{FieldCount}
use Rattle.mapf_grid.proofs.scenario.FileFaults.{HaveRead-more, IsScenario-blank, IsScenario-end, IsScenFault-blank, IsScenFault-next}
use Rattle.mapf_grid.proofs.scenario.reader.read_rows.Goals as goal

pub returns-then-are_blank_lines-clause-found : goal.returns-then-are_blank_lines-clause-found
returns-then-are_blank_lines-clause-found c =
    IsScenario-blank c.loop-line.invariant c.in-Some.ensures.line (sym c.is_blank_line.ensures ∙ c.if-is_blank_line.true) (sym c.are_blank_lines.ensures ∙ c.if-are_blank_lines.true)

pub returns-else-are_blank_lines-clause-fault : goal.returns-else-are_blank_lines-clause-fault
returns-else-are_blank_lines-clause-fault c =
    let number : length c.loop-line.rows.items + 2 ≡ c.len-number.result + 2 = grind arith in
    λ version is _. subst (λ k. IsScenFault (version ∷ lines_of c.args.rest.now) (FieldCount k)) number
    (IsScenFault-blank c.loop-line.invariant c.in-Some.ensures.line (sym c.is_blank_line.ensures ∙ c.if-is_blank_line.true) (sym c.are_blank_lines.ensures ∙ c.if-are_blank_lines.false) version is)

pub returns-in_err-row-clause-fault : goal.returns-in_err-row-clause-fault
returns-in_err-row-clause-fault c =
    let number : c.len-number.result + 2 ≡ length c.loop-line.rows.items + 2 = grind arith in
    let p = err_from_is_err_and c.from_residual.result c.from_residual.ensures.1 in
    rw (p.1, p.2) (λ version is other. IsScenFault-next c.loop-line.invariant c.in-Some.ensures.line (sym c.is_blank_line.ensures ∙ c.if-is_blank_line.false) c.in_err-row.field-0.0
    (subst (λ k. IsScenarioRowFault c.in-Some.line.now k c.in_err-row.field-0.0) number (c.in_err-row.ensures.fault other)) version is)

pub loop-line-preserved : goal.loop-line-preserved
loop-line-preserved c =
    let pushed : c.push.new.self.items ≡ c.loop-line.rows.items ++ c.in_ok-row.row ∷ [] = grind (arith, common_steps) in
    rw pushed (HaveRead-more c.in_ok-row.row c.loop-line.invariant c.in-Some.ensures.line c.in-Some.ensures.shorter c.in_ok-row.ensures.found)

pub returns-clause-found : goal.returns-clause-found
returns-clause-found c = IsScenario-end c.loop-line.invariant c.in_default.ensures.line
