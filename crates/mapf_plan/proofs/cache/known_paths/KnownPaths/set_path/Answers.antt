use Rattle.std.proofs.Common.{sym, subst, set, Vec, Global}
use Rattle.mapf_plan.specs.declared.pair_conflicts.PairConflict.{PairConflict}
use Rattle.mapf_plan.specs.KnownPaths.{IsKnownPlan}
use Rattle.mapf_plan.proofs.PlanNumbers.{plan_turned}
use Rattle.mapf_plan.proofs.cache.known_paths.KnownPaths.set_path.Goals as goal

pub returns-clause-plan : goal.returns-clause-plan
returns-clause-plan c =
    subst (λ (v : Vec PairConflict Global). IsKnownPlan c.args.self.now (set c.args.plan.now.numbers.items c.args.agent c.args.number) v.items) (sym c.replace.ensures.after)
    (plan_turned c.args.self.now c.args.plan.now.numbers.items c.args.plan.now.conflicts.items c.in_ok-conflicts.conflicts.items c.args.agent c.args.number c.requires.plan c.requires.number c.in_ok-conflicts.ensures.conflicts)
