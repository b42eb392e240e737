use Rattle.std.proofs.Common.{◌++◌, map, ap, ap₂, ◌∙◌}
use Rattle.mapf_tree.specs.Prelude.{arc_value, Chain}
use Rattle.mapf_tree.specs.declared.node.chain.Older.{Older}
use Rattle.mapf_tree.proofs.node.Chains.{map-clones}
use Rattle.mapf_tree.proofs.node.chain.Chain.all.Goals as goal

pub returns-clause-changes : goal.returns-clause-changes
returns-clause-changes c =
    ap (λ (o : Older). map arc_value o.changes.items) c.in_ok-new.ensures.ok
    ∙ map-clones arc_value c.extend_with_clones.new.self.items c.extend_with_clones-2.new.self.items c.as_slice.result.now c.in_ok-extend_with_clones-2.ensures.items
    ∙ ap₂ (λ xs ys. xs ++ ys)
    (map-clones arc_value c.in_ok-changes.changes.items c.extend_with_clones.new.self.items c.deref-2.result.now c.in_ok-extend_with_clones.ensures.items
    ∙ ap₂ (λ xs ys. map arc_value xs ++ map arc_value ys) c.in_ok-changes.ensures.items (c.deref-2.ensures.value ∙ ap (λ (o : Older). o.changes.items) c.deref.ensures))
    c.as_slice.ensures
    ∙ ap (λ (l : Chain). l.changes) c.self.view_is
