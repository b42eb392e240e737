use Rattle.mapf_tree.specs.Nodes.{AllStand}
use Rattle.mapf_solve.proofs.sessions.source.SessionSource.post_all.Given as goal

abbrev pub invariant-loop-node : goal.invariant-loop-node
invariant-loop-node g l = AllStand g.P.OneProblem.problem l.node-iterator
