use Rattle.std.proofs.Common.{inr, ap, ◌∙◌, arith}
use Rattle.std.proofs.lemmas.Result.{err_from_is_err_and}
use Rattle.mapf_grid.specs.Lines.{number_of}
use Rattle.mapf_grid.specs.RowFields.{AreFields}
use Rattle.mapf_grid.proofs.scenario.RowFaults.{SpellsFields-all, AreNumbersBefore-second, AreNumbersBefore-more, IsScenarioRowFault-number}
use Rattle.mapf_grid.proofs.scenario.reader.read_row.Goals as goal

pub returns-in_err-width-clause-fault : goal.returns-in_err-width-clause-fault
returns-in_err-width-clause-fault c =
    let line = c.args.text.now in
    let are : AreFields line c.in_ok-fields.fields = grind arith in
    let spells = SpellsFields-all are in
    let before3 = AreNumbersBefore-second line c.in_ok-bucket.bucket (ap number_of spells.bucket ∙ c.in_ok-bucket.ensures) in
    let p = err_from_is_err_and c.from_residual-in_err-width.result c.from_residual-in_err-width.ensures.1 in
    rw (p.1, p.2, c.in_err-width.ensures.1) (λ _. IsScenarioRowFault-number line c.args.line 3 spells.nine before3 (inr (omega arith, omega arith)) (ap number_of spells.width ∙ c.in_err-width.ensures.0))

pub returns-in_err-height-clause-fault : goal.returns-in_err-height-clause-fault
returns-in_err-height-clause-fault c =
    let line = c.args.text.now in
    let are : AreFields line c.in_ok-fields.fields = grind arith in
    let spells = SpellsFields-all are in
    let before3 = AreNumbersBefore-second line c.in_ok-bucket.bucket (ap number_of spells.bucket ∙ c.in_ok-bucket.ensures) in
    let before4 = AreNumbersBefore-more line 3 c.in_ok-width.width before3 (ap number_of spells.width ∙ c.in_ok-width.ensures) in
    let p = err_from_is_err_and c.from_residual-in_err-height.result c.from_residual-in_err-height.ensures.1 in
    rw (p.1, p.2, c.in_err-height.ensures.1) (λ _. IsScenarioRowFault-number line c.args.line 4 spells.nine before4 (inr (omega arith, omega arith)) (ap number_of spells.height ∙ c.in_err-height.ensures.0))

pub returns-in_err-start_x-clause-fault : goal.returns-in_err-start_x-clause-fault
returns-in_err-start_x-clause-fault c =
    let line = c.args.text.now in
    let are : AreFields line c.in_ok-fields.fields = grind arith in
    let spells = SpellsFields-all are in
    let before3 = AreNumbersBefore-second line c.in_ok-bucket.bucket (ap number_of spells.bucket ∙ c.in_ok-bucket.ensures) in
    let before4 = AreNumbersBefore-more line 3 c.in_ok-width.width before3 (ap number_of spells.width ∙ c.in_ok-width.ensures) in
    let before5 = AreNumbersBefore-more line 4 c.in_ok-height.height before4 (ap number_of spells.height ∙ c.in_ok-height.ensures) in
    let p = err_from_is_err_and c.from_residual-in_err-start_x.result c.from_residual-in_err-start_x.ensures.1 in
    rw (p.1, p.2, c.in_err-start_x.ensures.1) (λ _. IsScenarioRowFault-number line c.args.line 5 spells.nine before5 (inr (omega arith, omega arith)) (ap number_of spells.start_x ∙ c.in_err-start_x.ensures.0))

pub returns-in_err-start_y-clause-fault : goal.returns-in_err-start_y-clause-fault
returns-in_err-start_y-clause-fault c =
    let line = c.args.text.now in
    let are : AreFields line c.in_ok-fields.fields = grind arith in
    let spells = SpellsFields-all are in
    let before3 = AreNumbersBefore-second line c.in_ok-bucket.bucket (ap number_of spells.bucket ∙ c.in_ok-bucket.ensures) in
    let before4 = AreNumbersBefore-more line 3 c.in_ok-width.width before3 (ap number_of spells.width ∙ c.in_ok-width.ensures) in
    let before5 = AreNumbersBefore-more line 4 c.in_ok-height.height before4 (ap number_of spells.height ∙ c.in_ok-height.ensures) in
    let before6 = AreNumbersBefore-more line 5 c.in_ok-start_x.start_x before5 (ap number_of spells.start_x ∙ c.in_ok-start_x.ensures) in
    let p = err_from_is_err_and c.from_residual-in_err-start_y.result c.from_residual-in_err-start_y.ensures.1 in
    rw (p.1, p.2, c.in_err-start_y.ensures.1) (λ _. IsScenarioRowFault-number line c.args.line 6 spells.nine before6 (inr (omega arith, omega arith)) (ap number_of spells.start_y ∙ c.in_err-start_y.ensures.0))

pub returns-in_err-goal_x-clause-fault : goal.returns-in_err-goal_x-clause-fault
returns-in_err-goal_x-clause-fault c =
    let line = c.args.text.now in
    let are : AreFields line c.in_ok-fields.fields = grind arith in
    let spells = SpellsFields-all are in
    let before3 = AreNumbersBefore-second line c.in_ok-bucket.bucket (ap number_of spells.bucket ∙ c.in_ok-bucket.ensures) in
    let before4 = AreNumbersBefore-more line 3 c.in_ok-width.width before3 (ap number_of spells.width ∙ c.in_ok-width.ensures) in
    let before5 = AreNumbersBefore-more line 4 c.in_ok-height.height before4 (ap number_of spells.height ∙ c.in_ok-height.ensures) in
    let before6 = AreNumbersBefore-more line 5 c.in_ok-start_x.start_x before5 (ap number_of spells.start_x ∙ c.in_ok-start_x.ensures) in
    let before7 = AreNumbersBefore-more line 6 c.in_ok-start_y.start_y before6 (ap number_of spells.start_y ∙ c.in_ok-start_y.ensures) in
    let p = err_from_is_err_and c.from_residual-in_err-goal_x.result c.from_residual-in_err-goal_x.ensures.1 in
    rw (p.1, p.2, c.in_err-goal_x.ensures.1) (λ _. IsScenarioRowFault-number line c.args.line 7 spells.nine before7 (inr (omega arith, omega arith)) (ap number_of spells.goal_x ∙ c.in_err-goal_x.ensures.0))

pub returns-in_err-goal_y-clause-fault : goal.returns-in_err-goal_y-clause-fault
returns-in_err-goal_y-clause-fault c =
    let line = c.args.text.now in
    let are : AreFields line c.in_ok-fields.fields = grind arith in
    let spells = SpellsFields-all are in
    let before3 = AreNumbersBefore-second line c.in_ok-bucket.bucket (ap number_of spells.bucket ∙ c.in_ok-bucket.ensures) in
    let before4 = AreNumbersBefore-more line 3 c.in_ok-width.width before3 (ap number_of spells.width ∙ c.in_ok-width.ensures) in
    let before5 = AreNumbersBefore-more line 4 c.in_ok-height.height before4 (ap number_of spells.height ∙ c.in_ok-height.ensures) in
    let before6 = AreNumbersBefore-more line 5 c.in_ok-start_x.start_x before5 (ap number_of spells.start_x ∙ c.in_ok-start_x.ensures) in
    let before7 = AreNumbersBefore-more line 6 c.in_ok-start_y.start_y before6 (ap number_of spells.start_y ∙ c.in_ok-start_y.ensures) in
    let before8 = AreNumbersBefore-more line 7 c.in_ok-goal_x.goal_x before7 (ap number_of spells.goal_x ∙ c.in_ok-goal_x.ensures) in
    let p = err_from_is_err_and c.from_residual-in_err-goal_y.result c.from_residual-in_err-goal_y.ensures.1 in
    rw (p.1, p.2, c.in_err-goal_y.ensures.1) (λ _. IsScenarioRowFault-number line c.args.line 8 spells.nine before8 (inr (omega arith, omega arith)) (ap number_of spells.goal_y ∙ c.in_err-goal_y.ensures.0))

pub returns-clause-found : goal.returns-clause-found
returns-clause-found c =
    let line = c.args.text.now in
    let are : AreFields line c.in_ok-fields.fields = grind arith in
    let spells = SpellsFields-all are in
    record {
      nine = spells.nine;
      bucket = ap number_of spells.bucket ∙ c.in_ok-bucket.ensures;
      map_name = rw c.in_ok-copy.ensures are.name;
      width = ap number_of spells.width ∙ c.in_ok-width.ensures;
      height = ap number_of spells.height ∙ c.in_ok-height.ensures;
      start_x = ap number_of spells.start_x ∙ c.in_ok-start_x.ensures;
      start_y = ap number_of spells.start_y ∙ c.in_ok-start_y.ensures;
      goal_x = ap number_of spells.goal_x ∙ c.in_ok-goal_x.ensures;
      goal_y = ap number_of spells.goal_y ∙ c.in_ok-goal_y.ensures;
      optimal_length = rw c.in_ok-copy-2.ensures spells.optimal_length;
    }
