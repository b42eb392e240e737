use Rattle.std.proofs.Common.{ap, length, arith}
use Rattle.mapf_optimum.specs.FreeTree.{FreeNode}
use Rattle.mapf_optimum.proofs.node.FreeNode.left_for.Goals as goal

pub sum_of-requires : goal.sum_of-requires
sum_of-requires c =
    omega (arith, ap length c.deref.ensures.value, ap (λ (n : FreeNode). length n.costs) c.self.view_is, ap (λ (n : FreeNode). length n.plan) c.self.view_is, c.requires.node.costs.agents, c.requires.node.paths.agents, c.paths-paths.ensures.few)
