use Rattle.std.proofs.Common.{subst}
use Rattle.mapf_plan.specs.Text.{CanWrite}
use Rattle.mapf_check.proofs.Verdicts.{plan_positions}
use Rattle.mapf_check.proofs.checker.check_by.Goals as goal

pub returns-in-Plan-clause-positions : goal.returns-in-Plan-clause-positions
returns-in-Plan-clause-positions c =
    λ can. plan_positions c.args.rule c.args.instance.now c.in-Plan.plan c.in-Plan.stated c.check_plan.result c.check_plan.ensures
    (subst (CanWrite c.args.instance.now.grid) c.in-Plan.is can).1
