use Rattle.mapf_tree.proofs.Prelude.{◌≡◌, ◌≤◌, ◌<◌, List, length, get_or, Some, None, subst, subst₂, sym, ap, ◌∙◌, arith, get_or_default_zero, slice_get_within}
use Rattle.mapf_tree.specs.Prelude.{slice_get, slice_index, constraint_on, Constraint, HasOneMore, HasSet, IsAsked, MOST_BOUND, PathCache, SideQuery}
use Rattle.mapf_tree.proofs.own_paths.FreeSides.{constraints_at, free_agent_inside, free_asked, free_set, free_set_inside}
use Rattle.mapf_tree.proofs.own_paths.path_cache.PathCache.query_on.Goals.{in-Some+in_ok-before-in-Some, in-None}
use Rattle.mapf_tree.proofs.own_paths.path_cache.PathCache.query_on.Goals as goal

pub under-requires : goal.under-requires
under-requires c =
    let cache = c.args.self.now in
    let free = c.args.free.now in
    let conflict = c.args.conflict.now in
    let side = c.args.side in
    let agent = c.agent_of-agent.result in
    let k = c.constraint_of-constraint.result in
    let more = c.in_ok-and.field-0 in
    let least = c.cost_in-least.result in
    let inside : agent < length cache.problem.inst.starts = subst (λ i. i < length cache.problem.inst.starts) (sym c.agent_of-agent.ensures) (free_agent_inside cache free conflict side c.requires.free c.requires.conflict) in
    let in_sets : agent < length free.sets.items = subst (λ i. i < length free.sets.items) (sym c.agent_of-agent.ensures) (free_set_inside cache free conflict side c.requires.free c.requires.conflict) in
    let number : c.index.result.now ≡ get_or free.sets.items agent 0 = c.index.ensures ∙ get_or_default_zero free.sets.items agent c.index.result.now in_sets in
    let set = free_set cache free agent c.requires.free inside in
    let most : cache.problem.bound ≤ MOST_BOUND = omega (arith, c.bound-most.ensures.small, c.bound-most.ensures.bound, ap (λ (b : PathCache). b.problem.bound) c.self.view_is) in
    let before : c.match-get.before ≡ set.0 =
    elim c.match-get.branch [
      | in-Some+in_ok-before-in-Some w ↦
          let at : slice_get cache.sets c.index.result.now ≡ Some w.in-Some.set.now = subst (λ (b : PathCache). slice_get b.sets c.index.result.now ≡ Some w.in-Some.set.now) c.self.view_is w.in-Some.ensures in
          w.before-is ∙ w.in_ok-before-in-Some.ensures ∙ constraints_at cache.sets (slice_index free.sets.items agent) c.index.result.now agent w.in-Some.set.now set.0 at number set.1
      | in-None w ↦ absurd (omega (arith, w.in-None.ensures, number, slice_get_within cache.sets (slice_index free.sets.items agent) set.1.0 set.1.1, ap (λ (b : PathCache). length b.sets) c.self.view_is))
    ] in
    let after : HasOneMore k set.0 more = subst (λ cs. HasOneMore k cs more) before c.in_ok-and.ensures in
    subst (λ (b : PathCache). IsAsked (record { problem = b.problem; side = side; agent = agent; constraint = k; constraints = more; bound = c.args.bound }) least None) (sym c.self.view_is)
    (free_asked cache free conflict side agent c.args.bound least k set.0 more c.requires.free c.requires.conflict c.requires.bound most c.agent_of-agent.ensures c.constraint_of-constraint.ensures set.1 after c.cost_in-least.ensures)

pub returns-clause-constraints : goal.returns-clause-constraints
returns-clause-constraints c =
    let cache = c.args.self.now in
    let free = c.args.free.now in
    let conflict = c.args.conflict.now in
    let side = c.args.side in
    let agent = c.agent_of-agent.result in
    let more = c.in_ok-and.field-0 in
    let in_sets : agent < length free.sets.items = subst (λ i. i < length free.sets.items) (sym c.agent_of-agent.ensures) (free_set_inside cache free conflict side c.requires.free c.requires.conflict) in
    let number : c.index.result.now ≡ get_or free.sets.items agent 0 = c.index.ensures ∙ get_or_default_zero free.sets.items agent c.index.result.now in_sets in
    let before : (cs : List Constraint) → HasSet cache.sets (slice_index free.sets.items agent) agent cs → c.match-get.before ≡ cs =
    λ cs has. elim c.match-get.branch [
      | in-Some+in_ok-before-in-Some w ↦
          let at : slice_get cache.sets c.index.result.now ≡ Some w.in-Some.set.now = subst (λ (b : PathCache). slice_get b.sets c.index.result.now ≡ Some w.in-Some.set.now) c.self.view_is w.in-Some.ensures in
          w.before-is ∙ w.in_ok-before-in-Some.ensures ∙ constraints_at cache.sets (slice_index free.sets.items agent) c.index.result.now agent w.in-Some.set.now cs at number has
      | in-None w ↦ absurd (omega (arith, w.in-None.ensures, number, slice_get_within cache.sets (slice_index free.sets.items agent) has.0 has.1, ap (λ (b : PathCache). length b.sets) c.self.view_is))
    ] in
    subst (λ (q : SideQuery). (cs : List Constraint) → HasSet cache.sets (slice_index free.sets.items q.agent) q.agent cs → HasOneMore (constraint_on conflict side) cs q.constraints) (sym c.under.ensures)
    (λ cs has. subst₂ (λ k ds. HasOneMore k ds more) c.constraint_of-constraint.ensures (before cs has) c.in_ok-and.ensures)
