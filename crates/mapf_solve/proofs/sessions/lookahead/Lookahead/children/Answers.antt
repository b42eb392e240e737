use Rattle.std.proofs.Common.{IfOk, subst, ◌∙◌}
use Rattle.mapf_tree.specs.declared.tree.side.Side.TheVariants.{Left, Right}
use Rattle.mapf_tree.specs.Family.{IsChildOf}
use Rattle.mapf_solve.proofs.sessions.lookahead.Lookahead.children.Goals as goal

pub returns-clause-left : goal.returns-clause-left
returns-clause-left g c =
    subst (λ p. IfOk c.children.result (λ sides. IsChildOf p c.args.node.now Left sides.0)) (c.deref_mut.ensures.value ∙ c.args.self.now.is_of) c.children.ensures.left

pub returns-clause-right : goal.returns-clause-right
returns-clause-right g c =
    subst (λ p. IfOk c.children.result (λ sides. IsChildOf p c.args.node.now Right sides.1)) (c.deref_mut.ensures.value ∙ c.args.self.now.is_of) c.children.ensures.right
