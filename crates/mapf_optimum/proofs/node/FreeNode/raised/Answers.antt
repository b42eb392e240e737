use Rattle.std.proofs.Common.{ap, subst, sym, arith}
use Rattle.mapf_optimum.specs.FreeTree.{FreeNode, IsFreeNode, IsLowerBoundOf}
use Rattle.mapf_optimum.specs.Groups.{alone}
use Rattle.mapf_optimum.proofs.Fresh.{raised_is}
use Rattle.mapf_optimum.proofs.node.FreeNode.raised.Goals as goal

pub returns : goal.returns
returns c = (
  raised_is (alone c.args.part.now) _ c.args.least c.max.result (subst (IsFreeNode (alone c.args.part.now)) (sym c.node.view_is) c.requires.node)
      (subst (λ (n : FreeNode). IsLowerBoundOf (alone c.args.part.now) n.sets c.args.least) (sym c.node.view_is) c.requires.below) (omega (arith, c.max.ensures, c.min.ensures, c.from.ensures, c.bound.ensures.bound)),
  ap (λ (n : FreeNode). n.sets) c.node.view_is,
)
