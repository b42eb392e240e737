use Rattle.std.proofs.Common.{◌≡◌, ◌∷◌, sym, subst, arith, rules}
use Rattle.std.proofs.lemmas.Result.{err_from_is_err_and}
use Rattle.mapf_grid.specs.Lines.{lines_of}
use Rattle.mapf_grid.specs.ScenarioFile.{IsVersion, IsScenario, IsScenFault}
use Rattle.mapf_grid.proofs.scenario.FileFaults.{only_no_memory}
use Rattle.mapf_grid.proofs.laws.Unique.{one_scenario}
use Rattle.mapf_grid.proofs.scenario.Scenario.read.Goals as goal

pub returns-in_err-rows-clause-only : goal.returns-in_err-rows-clause-only
returns-in_err-rows-clause-only c =
    let version = c.in_ok-version.version.now in
    let lines : lines_of c.args.bytes.now ≡ version ∷ lines_of c.in_ok-version.behind.now = grind arith in
    let is : IsVersion version = search rules in
    let p = err_from_is_err_and c.from_residual-in_err-rows.result c.from_residual-in_err-rows.ensures.1 in
    rw (p.1, p.2) (λ rows scenario. only_no_memory scenario c.in_err-rows.field-0.0
    (λ other. subst (λ l. IsScenFault l c.in_err-rows.field-0.0) (sym lines) (c.in_err-rows.ensures.fault version is other)))

pub returns-clause-only : goal.returns-clause-only
returns-clause-only c =
    let version = c.in_ok-version.version.now in
    let lines : lines_of c.args.bytes.now ≡ version ∷ lines_of c.in_ok-version.behind.now = grind arith in
    let is : IsVersion version = search rules in
    let found : IsScenario (lines_of c.args.bytes.now) c.in_ok-rows.rows.items =
    subst (λ l. IsScenario l c.in_ok-rows.rows.items) (sym lines) (c.in_ok-rows.ensures.found version is) in
    λ rows scenario. one_scenario (lines_of c.args.bytes.now) c.in_ok-rows.rows.items rows found scenario
