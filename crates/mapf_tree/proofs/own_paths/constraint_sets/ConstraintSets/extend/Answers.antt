use Rattle.std.proofs.Common.{subst, sym}
use Rattle.mapf_tree.specs.Prelude.{option_map, AreExtensions, IsExtension, GivesOwn}
use Rattle.mapf_tree.proofs.own_paths.PathCaches.{extensions_more}
use Rattle.mapf_tree.proofs.own_paths.constraint_sets.ConstraintSets.extend.Goals as goal

pub invariant_of-self : goal.invariant_of-self
invariant_of-self c = subst (AreExtensions c.self.inside.sets.items) (sym c.in_err-push.ensures.items) c.self.invariant

pub invariant_of-self-2 : goal.invariant_of-self-2
invariant_of-self-2 c =
    extensions_more _ _ _ _ c.in_ok-push.ensures.items c.self.invariant (subst (λ sets. IsExtension sets c.args.before c.args.constraint c.args.after) (sym c.self.view_is) c.requires.extended)
    (subst (λ sets. GivesOwn sets c.args.after c.args.constraint (option_map (λ d. d.value) c.in_ok-change.change)) (sym c.self.view_is) c.in_ok-change.ensures)
