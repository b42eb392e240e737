use Rattle.std.proofs.Common.{set, subst₂, ap, ◌∙◌}
use Rattle.mapf_tree.specs.Prelude.{Node, IsConflictOf, Body}
use Rattle.mapf_tree.proofs.node.Node.first_conflict_with.Goals as goal

pub returns : goal.returns
returns c =
    subst₂ (λ rule plan. IsConflictOf rule plan c.first_conflict_of_changed.result) (c.root.ensures.rule ∙ ap (λ (b : Body). b.chain.rule) c.deref-2.ensures ∙ ap (λ (n : Node). n.rule) c.self.view_is)
    (c.set.ensures ∙ ap (λ plan. set plan c.args.agent c.args.path.now) c.requires.paths) c.first_conflict_of_changed.ensures
