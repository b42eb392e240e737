use Rattle.std.proofs.Common.{subst, ◌∙◌}
use Rattle.mapf_tree.specs.Prelude.{Left, Right, IsChildOf}
use Rattle.mapf_tree.proofs.own_paths.OwnPaths.children.Goals as goal

pub returns-clause-left : goal.returns-clause-left
returns-clause-left c = subst (λ p. IsChildOf p c.args.node.now Left c.in_ok-left-2.left) c.self.view_is c.in_ok-left-2.ensures.child

pub returns-clause-right : goal.returns-clause-right
returns-clause-right c =
    subst (λ p. IsChildOf p c.args.node.now Right c.in_ok-right.right) (c.in_ok-left-2.ensures.problem ∙ c.self.view_is) c.in_ok-right.ensures.child
