use Rattle.std.proofs.Common.{ap, subst, subst₂, sym, List, ℕ}
use Rattle.mapf_optimum.specs.FreeTree.{FreeNode, HaveAllowedPaths, IsFreeNode}
use Rattle.mapf_optimum.specs.Groups.{alone}
use Rattle.mapf_optimum.proofs.Fresh.{showing_is}
use Rattle.mapf_optimum.proofs.node.FreeNode.showing.Goals as goal

pub returns : goal.returns
returns c = record {
  same = (
    showing_is (alone c.args.part.now) _ c.of.result (subst (IsFreeNode (alone c.args.part.now)) (sym c.self.view_is) c.requires.node)
        (subst₂ (λ (n : FreeNode) (p : List (List ℕ)). HaveAllowedPaths (alone c.args.part.now) n.sets p) (sym c.self.view_is) (sym c.of.ensures) c.requires.paths),
    ap (λ (n : FreeNode). n.sets) c.self.view_is,
  );
}
