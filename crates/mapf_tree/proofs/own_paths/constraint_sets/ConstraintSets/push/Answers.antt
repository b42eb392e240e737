use Rattle.std.proofs.Common.{sym, subst}
use Rattle.mapf_tree.specs.Prelude.{AreExtensions}
use Rattle.mapf_tree.proofs.own_paths.PathCaches.{extensions_kept}
use Rattle.mapf_tree.proofs.own_paths.constraint_sets.ConstraintSets.push.Goals as goal

pub invariant_of-self-2 : goal.invariant_of-self-2
invariant_of-self-2 c = extensions_kept _ _ c.args.set _ c.in_ok-push.ensures.items c.self.invariant

pub invariant_of-self : goal.invariant_of-self
invariant_of-self c = subst (λ sets. AreExtensions sets c.self.inside.extensions.items) (sym c.in_err-push.ensures.items) c.self.invariant
