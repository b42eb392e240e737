use Rattle.std.proofs.Common.{◌∙◌, sym, refl}
use Rattle.mapf_check.proofs.Verdicts.{at_none, fault_is_verdict, faultless_is_valid}
use Rattle.mapf_check.proofs.checker.check_plan.Goals as goal

pub returns-in-Some : goal.returns-in-Some
returns-in-Some c =
    fault_is_verdict c.args.rule c.args.instance.now c.args.plan.now c.args.stated c.in-Some.fault (c.in-Some.ensures c.args.rule c.args.stated)

pub returns : goal.returns
returns c = (
  faultless_is_valid c.args.rule c.args.instance.now c.args.plan.now c.agents.ensures.sound
      (at_none _ _ _ c.fault_of_paths.ensures c.in_default.not-Some)
      (at_none _ _ _ c.first_conflict_by.ensures c.in_default-first_conflict_by.not-Some),
  sym c.cost-found.ensures.cost ∙ c.if-found-stated.false,
  refl,
)
