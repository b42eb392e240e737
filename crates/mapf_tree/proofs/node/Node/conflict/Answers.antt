use Rattle.std.proofs.Common.{sym, subst}
use Rattle.mapf_tree.specs.Prelude.{Node, IsConflictOf, Body}
use Rattle.mapf_tree.proofs.node.Node.conflict.Goals as goal

pub returns-clause-first : goal.returns-clause-first
returns-clause-first c =
    subst (λ (b : Body). IsConflictOf c.args.self.now.rule c.args.self.now.plan b.conflict) (sym c.deref.ensures)
    (subst (λ (n : Node). IsConflictOf n.rule n.plan c.self.inside.body.value.conflict) c.self.view_is c.self.invariant.conflict)
