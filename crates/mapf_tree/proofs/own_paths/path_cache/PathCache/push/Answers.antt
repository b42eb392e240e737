use Rattle.std.proofs.Common.{ℕ, List, subst, sym}
use Rattle.mapf_tree.specs.Prelude.{Constraint, ConstraintSet, PathCache, HasSet, IsCachedPath}
use Rattle.mapf_tree.proofs.own_paths.PathCaches.{known_more, firsts_kept, set_kept, set_added}
use Rattle.mapf_tree.proofs.own_paths.path_cache.PathCache.push.Goals as goal

pub invariant_of-self-2 : goal.invariant_of-self-2
invariant_of-self-2 c =
    let s : ConstraintSet = record { agent = c.args.agent; constraints = c.args.constraints; own = c.args.own } in
    let problem = c.self.inside.problem.now in
    let old = c.self.inside.sets in
    let new = c.push.new.self in
    let kept : (n a : ℕ) (cs : List Constraint) → HasSet old n a cs → HasSet new n a cs = λ n a cs h. set_kept old new s n a cs c.in_ok-set.ensures.added.0 h in (
      known_more problem c.self.inside.paths.paths old new s c.in_ok-set.ensures.added.0 c.self.invariant.0
          (subst (λ (b : PathCache). IsCachedPath b.problem b.paths c.args.agent c.args.constraints c.args.own) (sym c.self.view_is) c.requires),
      firsts_kept problem old new c.self.inside.firsts.items kept c.self.invariant.1,
      c.self.invariant.2,
      c.self.invariant.3,
    )

pub returns-clause-kept : goal.returns-clause-kept
returns-clause-kept c n a cs has =
    set_kept _ _ (record { agent = c.args.agent; constraints = c.args.constraints; own = c.args.own }) n a cs c.in_ok-set.ensures.added.0 (subst (λ (b : PathCache). HasSet b.sets n a cs) (sym c.self.view_is) has)

pub returns-clause-set : goal.returns-clause-set
returns-clause-set c = set_added _ _ (record { agent = c.args.agent; constraints = c.args.constraints; own = c.args.own }) c.in_ok-set.set c.in_ok-set.ensures.added.0 c.in_ok-set.ensures.added.1
