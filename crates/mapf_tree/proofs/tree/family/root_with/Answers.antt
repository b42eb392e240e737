use Rattle.std.proofs.Common.{[], ap, ◌∙◌, subst₂, length, replicate, arith}
use Rattle.mapf_tree.specs.Prelude.{plan_cost, IsConflictOf}
use Rattle.mapf_tree.proofs.RootNodes.{no_root, root_stands}
use Rattle.mapf_tree.proofs.tree.family.root_with.Goals as goal

pub returns-then-cost-from : goal.returns-then-cost-from
returns-then-cost-from c =
    no_root c.args.problem.now c.args.paths.items c.requires
    (omega (arith, c.cost.ensures.cost, ap plan_cost c.of-plan.ensures))

pub returns : goal.returns
returns c =
    root_stands c.args.problem.now c.in_ok-root.field-0 c.args.paths.items c.requires
    (omega (arith, c.cost.ensures.cost, ap plan_cost c.of-plan.ensures))
    c.in_ok-root.ensures.name
    c.in_ok-root.ensures.changes
    (c.in_ok-root.ensures.constraints ∙ ap (λ n. replicate n []) (ap length c.of-plan.ensures ∙ c.requires.each))
    (c.in_ok-root.ensures.plan ∙ c.of-plan.ensures)
    (c.in_ok-root.ensures.rule ∙ c.rule.ensures)
    (subst₂ (λ r plan. IsConflictOf r plan c.in_ok-root.field-0.conflict) c.rule.ensures c.of-plan.ensures c.in_ok-root.ensures.conflict)
