use Rattle.std.proofs.Common.{rules, subst, IsSome}
use Rattle.mapf_tree.proofs.high_level.Expansions.{branches}
use Rattle.mapf_solve.proofs.WaitingNodes.{others_wait}
use Rattle.mapf_solve.proofs.sessions.source.SessionSource.post_all.Goals as goal

pub post-requires : goal.post-requires
post-requires g c = branches g.P.OneProblem.problem _ _ _ c.in-Some.ensures.steps c.loop-node.invariant (let some : IsSome c.conflict.result = search rules in subst IsSome c.conflict.ensures.conflict some)

pub loop-node-preserved-then-is_some : goal.loop-node-preserved-then-is_some
loop-node-preserved-then-is_some g c = others_wait g.P.OneProblem.problem _ _ _ c.loop-node.invariant c.in-Some.ensures.steps

pub loop-node-preserved : goal.loop-node-preserved
loop-node-preserved g c = others_wait g.P.OneProblem.problem _ _ _ c.loop-node.invariant c.in-Some.ensures.steps
