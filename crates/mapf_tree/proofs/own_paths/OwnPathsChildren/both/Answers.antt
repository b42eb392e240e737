use Rattle.std.proofs.Common.{subst}
use Rattle.mapf_tree.specs.Prelude.{IfOk, Left, Right, IsChildOf}
use Rattle.mapf_tree.proofs.own_paths.OwnPathsChildren.both.Goals as goal

pub returns-clause-left : goal.returns-clause-left
returns-clause-left c = subst (λ p. IfOk c.children.result (λ sides. IsChildOf p c.args.node.now Left sides.0)) c.requires.serves c.children.ensures.left

pub returns-clause-right : goal.returns-clause-right
returns-clause-right c = subst (λ p. IfOk c.children.result (λ sides. IsChildOf p c.args.node.now Right sides.1)) c.requires.serves c.children.ensures.right
