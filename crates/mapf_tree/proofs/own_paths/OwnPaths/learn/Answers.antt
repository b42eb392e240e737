use Rattle.std.proofs.Common.{sym, subst}
use Rattle.mapf_tree.specs.Prelude.{IsChildOf}
use Rattle.mapf_tree.proofs.own_paths.OwnPaths.learn.Goals as goal

pub answer_in-requires-clause-child : goal.answer_in-requires-clause-child
answer_in-requires-clause-child c = subst (λ p. IsChildOf p c.args.node.now c.args.query.now.side c.args.child.now) (sym c.requires.problem) c.requires.child
