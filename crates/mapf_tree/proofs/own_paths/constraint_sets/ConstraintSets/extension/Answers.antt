use Rattle.mapf_tree.proofs.Prelude.{◌≡◌, Some, refl, subst, subst₂, slice_get_read}
use Rattle.mapf_tree.specs.Prelude.{slice_get, IsExtension, Extends}
use Rattle.mapf_tree.proofs.own_paths.PathCaches.{extension_tells}
use Rattle.mapf_tree.proofs.own_paths.constraint_sets.ConstraintSets.extension.Goals as goal

pub returns-then-is_same : goal.returns-then-is_same
returns-then-is_same c =
    let e = c.in_ok-extension.extension.now in
    let at : slice_get c.self.inside.extensions.items c.args.number ≡ Some e =
    subst (λ xs. slice_get xs c.args.number ≡ Some e) c.deref.ensures.value (slice_get_read c.deref.result.now _ c.args.number e refl c.in_ok-extension.ensures.lookup.3.0 c.in_ok-extension.ensures.lookup.1) in
    let known = c.self.invariant c.args.number e at in
    subst₂ (λ sets k. Extends sets c.args.before k e) c.self.view_is (c.is_same.ensures c.if-is_same.true)
    (extension_tells _ c.args.before e.constraint e.after (subst (λ n. IsExtension c.self.inside.sets.items n e.constraint e.after) c.if-extension-before.true known.0), known.1)
