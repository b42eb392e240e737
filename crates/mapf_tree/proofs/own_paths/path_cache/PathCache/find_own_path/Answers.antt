use Rattle.std.proofs.Common.{◌≤◌, Some, refl, sym, subst, ap, arith}
use Rattle.mapf_tree.specs.Prelude.{arc_value, cost, PathCache, HasPath, IsOwnIn}
use Rattle.mapf_tree.proofs.own_paths.PathCaches.{own_in_path}
use Rattle.mapf_tree.proofs.own_paths.path_cache.PathCache.find_own_path.Goals as goal

pub returns-in-Path-clause-own : goal.returns-in-Path-clause-own
returns-in-Path-clause-own c =
    let s = c.in-Some.known.now in
    let path = arc_value c.in-Path.path in
    let cache : PathCache = record { problem = c.self.inside.problem.now; sets = c.self.inside.sets; paths = c.self.inside.paths.paths } in
    subst (λ (b : PathCache). c.args.bound ≤ b.problem.bound → IsOwnIn b c.args.set c.args.bound (Some c.in-Path.number)) c.self.view_is
    (λ small. own_in_path cache c.args.set c.in-Path.number c.args.bound path s c.self.invariant.0 c.in-Some.ensures (subst (λ own. HasPath own c.in-Path.number path) (sym c.in-Path.is) (refl, refl)) small
    (omega (arith, c.if-cost-bound.true, c.cost.ensures.cost, ap cost c.deref.ensures))) c.requires
