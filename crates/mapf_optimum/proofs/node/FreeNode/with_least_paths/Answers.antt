use Rattle.std.proofs.Common.{◌≡◌, ◌∙◌, length, ap, subst, subst₂, sym, arith}
use Rattle.std.specs.List.{sum_by}
use Rattle.mapf_plan.specs.Plan.{plan_cost}
use Rattle.mapf_optimum.specs.FreeTree.{FreeNode, HaveAllowedPaths, IsFreeNode}
use Rattle.mapf_optimum.specs.Groups.{alone}
use Rattle.mapf_optimum.proofs.Costs.{costs_at_least}
use Rattle.mapf_optimum.proofs.Fresh.{showing_is}
use Rattle.mapf_optimum.proofs.node.FreeNode.with_least_paths.Goals as goal

pub returns-clause-same : goal.returns-clause-same
returns-clause-same c = (
  showing_is (alone c.args.part.now) _ c.of.result (subst (IsFreeNode (alone c.args.part.now)) (sym c.self.view_is) c.requires)
      (subst₂ (HaveAllowedPaths (alone c.args.part.now)) c.deref.ensures.value (sym c.of.ensures) c.in_ok-new.ensures.paths),
  ap (λ (n : FreeNode). n.sets) c.self.view_is,
)

pub returns-clause-least : goal.returns-clause-least
returns-clause-least c =
    let plan = c.take_least_paths.new.paths.items in
    let costs : c.deref-2.result.now ≡ c.args.self.costs = c.deref-2.ensures.value ∙ ap (λ (n : FreeNode). n.costs) c.self.view_is in
    omega (
      arith,
      ap plan_cost c.of.ensures,
      costs_at_least c.deref-2.result.now plan (ap length costs ∙ c.requires.costs.agents ∙ sym c.in_ok-new.ensures.paths.agents) c.in_ok-new.ensures.least,
      ap (λ l. sum_by (λ k. k) l) costs,
      c.requires.alone,
      ap (λ (n : FreeNode). n.label) c.self.view_is,
    )
