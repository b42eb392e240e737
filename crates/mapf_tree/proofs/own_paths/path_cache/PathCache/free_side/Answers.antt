use Rattle.std.proofs.Common.{◌≡◌, ◌≤◌, ◌+◌, ◌-◌, Some, refl, subst, sym, ap, ◌∙◌, arith}
use Rattle.mapf_tree.specs.Prelude.{Problem, IsOwnIn, PathCache, agent_on, cost, path_of, paths_of, slice_get}
use Rattle.mapf_tree.proofs.own_paths.FreeSearches.{conflict_kept}
use Rattle.mapf_tree.proofs.own_paths.FreeSideCosts.{free_none, free_some, part_of_all, plan_is_kept, stays_free}
use Rattle.mapf_tree.proofs.own_paths.path_cache.PathCache.free_side.Goals as goal

pub returns-in_default-path-clause-side : goal.returns-in_default-path-clause-side
returns-in_default-path-clause-side c =
    let old = c.args.self.now in
    let new = c.set_on.new.self in
    let free = c.args.free.now in
    let grows = c.in_ok-set.ensures.grows in
    free_none new free c.args.conflict.now c.args.side c.args.most c.left_of_bound-bound.result c.in_ok-set.set c.cost_in-old.result
    (subst (λ (p : Problem). c.args.most ≤ p.bound) (sym grows.problem) c.requires.most) c.left_of_bound-bound.ensures
    (c.cost_in-old.ensures ∙ ap (λ a. cost (path_of (paths_of old free) a)) c.agent_of-agent.ensures ∙ ap (λ plan. cost (path_of plan (agent_on c.args.conflict.now c.args.side))) (sym (plan_is_kept old new free grows c.requires.free)))
    (conflict_kept old new free c.args.conflict.now grows c.requires.free c.requires.conflict) c.in_ok-set.ensures.set
    (subst (IsOwnIn new c.in_ok-set.set c.left_of_bound-bound.result) c.in_default-path.is c.in-Known.ensures.own)

pub returns-clause-side : goal.returns-clause-side
returns-clause-side c =
    let old = c.args.self.now in
    let new = c.set_on.new.self in
    let free = c.args.free.now in
    let grows = c.in_ok-set.ensures.grows in
    free_some new free c.args.conflict.now c.args.side c.args.most c.left_of_bound-bound.result c.in_ok-set.set c.cost_in-old.result
    (subst (λ (p : Problem). c.args.most ≤ p.bound) (sym grows.problem) c.requires.most) c.left_of_bound-bound.ensures
    (c.cost_in-old.ensures ∙ ap (λ a. cost (path_of (paths_of old free) a)) c.agent_of-agent.ensures ∙ ap (λ plan. cost (path_of plan (agent_on c.args.conflict.now c.args.side))) (sym (plan_is_kept old new free grows c.requires.free)))
    (conflict_kept old new free c.args.conflict.now grows c.requires.free c.requires.conflict) c.in_ok-set.ensures.set
    c.in-Some.number c.deref.result.now (stays_free old new free grows c.requires.free) (subst (λ (k : PathCache). slice_get k.paths c.in-Some.number ≡ Some c.deref.result.now) c.self.view_is (c.in-Some-path.ensures ∙ ap Some (sym c.deref.ensures)))
    (subst (IsOwnIn new c.in_ok-set.set c.left_of_bound-bound.result) c.in-Some.is c.in-Known.ensures.own)
    (record { agent = c.agent_of-agent.result; set = c.in_ok-set.set; path = c.in-Some.number; cost = c.args.free.now.cost - c.from-2.result + c.from-3.result }) c.agent_of-agent.ensures refl refl
    (omega (
      arith,
      c.from-2.ensures,
      c.from-3.ensures,
      c.cost.ensures.cost,
      part_of_all old free c.args.conflict.now c.args.side c.cost_in-old.result c.requires.free c.requires.conflict
          (c.cost_in-old.ensures ∙ ap (λ a. cost (path_of (paths_of old free) a)) c.agent_of-agent.ensures),
    ))
