use Rattle.std.proofs.Common.{ap, refl, subst, sym, arith}
use Rattle.mapf_plan.specs.Plan.{plan_cost}
use Rattle.mapf_optimum.specs.FreeTree.{FreeNode}
use Rattle.mapf_optimum.specs.Groups.{alone}
use Rattle.mapf_optimum.proofs.Fresh.{IsCheap, bounded_is}
use Rattle.mapf_optimum.proofs.node.FreeNode.bounded.Goals as goal
use Rattle.mapf_optimum.proofs.node.FreeNode.bounded.Goals.{then-cost-node+in_ok-node, else-cost-node}

pub returns-clause-same : goal.returns-clause-same
returns-clause-same c =
    let problem = alone c.args.part.now in
    let cheap : IsCheap problem c.args.self c.if-cost-node.node =
    elim c.if-cost-node.branch [
      | then-cost-node+in_ok-node w ↦ subst (IsCheap problem c.args.self) (sym w.node-is) (w.in_ok-node.ensures.same.0, w.in_ok-node.ensures.same.1, w.in_ok-node.ensures.least)
      | else-cost-node w ↦
          subst (IsCheap problem c.args.self) (sym w.node-is)
          (c.requires, refl, omega (arith, w.if-cost-node.false, c.cost.ensures.cost, ap (λ (n : FreeNode). n.label) c.node.view_is, ap (λ (n : FreeNode). plan_cost n.plan) c.node.view_is))
    ] in
    let there = subst (IsCheap problem c.args.self) (sym c.node-2.view_is) cheap in
    (bounded_is problem _ c.colliding_pairs.result there.0 there.2, there.1)
