use Rattle.std.proofs.Common.{IfSome, IsErr, MatchOption, inr, subst}
use Rattle.mapf_tree.specs.LowerBound.{IsBelowAll, IsLowerBound}
use Rattle.mapf_solve.proofs.solving.tell.Goals as goal

pub returns-in-Some : goal.returns-in-Some
returns-in-Some g c =
    let s = c.args.search.now in inr (
      record { nodes = c.taken_nodes-nodes.result; least = c.in-Some.least },
      record {
        counted = c.taken_nodes-nodes.ensures.is;
        took = c.taken_nodes-nodes.ensures.taken;
        is = subst (λ o. MatchOption o (IsErr s.outcome) (IsLowerBound s.problem s.waiting s.outcome)) c.in-Some.is c.lower_bound.ensures.is;
        below = subst (λ o. IfSome o (IsBelowAll s.problem)) c.in-Some.is c.lower_bound.ensures.below;
      },
      c.nodes_expanded.ensures,
    )
