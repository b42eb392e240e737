use Rattle.std.proofs.Common.{[], length, ap, ◌∙◌, arith, replicate, subst, map, List, ℕ}
use Rattle.mapf_grid.specs.Instance.{Instance}
use Rattle.mapf_plan.specs.Path.{cost}
use Rattle.mapf_plan.specs.Plan.{plan_cost}
use Rattle.mapf_low.specs.declared.constraint.Constraint.{Constraint}
use Rattle.mapf_optimum.specs.FreeSearch.{IsFreshNode}
use Rattle.mapf_optimum.proofs.Roots.{too_dear, root_is}
use Rattle.mapf_optimum.proofs.node.FreeNode.root.Goals as goal

pub returns-then-cost-from : goal.returns-then-cost-from
returns-then-cost-from c =
    too_dear c.args.problem.now c.args.paths.items c.requires (omega (arith, c.if-cost-from.true, c.from.ensures, c.bound.ensures.bound, c.cost.ensures.cost, ap plan_cost c.of-plan.ensures))

pub returns : goal.returns
returns c =
    root_is c.args.problem.now c.args.paths.items c.in_ok-costs.costs.items c.new.result c.requires
    (c.in_ok-costs.ensures ∙ ap (λ (l : List (List ℕ)). map cost l) c.deref.ensures.value)
    (omega (arith, c.if-cost-from.false, c.from.ensures, c.bound.ensures.bound, c.cost.ensures.cost, ap plan_cost c.of-plan.ensures))
    (subst (λ (p : List (List ℕ)). IsFreshNode (replicate (length c.args.problem.now.inst.starts) []) c.in_ok-costs.costs.items p c.new.result) c.of-plan.ensures
    (subst (λ (l : List (List Constraint)). IsFreshNode l c.in_ok-costs.costs.items c.of-plan.result c.new.result) (c.in_ok-sets.ensures ∙ ap (λ n. replicate {A = List Constraint} n []) (c.agents-agents.ensures.agents ∙ ap (λ (i : Instance). length i.starts) c.instance.ensures.instance)) c.new.ensures))
