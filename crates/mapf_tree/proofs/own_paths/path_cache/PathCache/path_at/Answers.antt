use Rattle.std.proofs.Common.{◌≡◌, Some, subst, sym, refl}
use Rattle.mapf_tree.specs.Prelude.{slice_get, arc_value, path_of, IsBranching, PathCache, AreSetsOf, HasPath}
use Rattle.mapf_tree.proofs.own_paths.PathCaches.{path_at_node}
use Rattle.mapf_tree.proofs.own_paths.path_cache.PathCache.path_at.Goals as goal

pub returns-in-Path : goal.returns-in-Path
returns-in-Path c =
    let node = c.args.node.now in
    let sets = c.args.sets.now in
    let number = c.in-Path.number in
    let cache : PathCache = record { problem = c.self.inside.problem.now; sets = c.self.inside.sets; paths = c.self.inside.paths.paths } in
    subst (λ (b : PathCache). IsBranching b.problem node → AreSetsOf b.sets sets node.constraints → slice_get b.paths number ≡ Some (path_of node.plan c.args.agent)) c.self.view_is
    (λ branching are. path_at_node cache node sets c.args.agent number c.in_ok-number.field-0.now (arc_value c.in-Path.field-1) branching are c.requires.agent c.self.invariant.0 c.in_ok-number.ensures (subst (λ own. HasPath own number (arc_value c.in-Path.field-1)) (sym c.in-Path.is) (refl, refl))) c.requires.node c.requires.sets
