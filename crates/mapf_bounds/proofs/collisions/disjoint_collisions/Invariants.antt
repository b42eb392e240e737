use Rattle.std.proofs.Common.{length}
use Rattle.mapf_bounds.specs.Pairs.{AreChosenBy, IsCollidingPair}
use Rattle.mapf_bounds.proofs.collisions.disjoint_collisions.Given as goal

abbrev pub invariant-loop-conflict : goal.invariant-loop-conflict
invariant-loop-conflict g l =
    let plan = g.P.AgentPaths.paths l.paths in AreChosenBy (length plan) (IsCollidingPair l.rule plan) l.taken.items l.count
