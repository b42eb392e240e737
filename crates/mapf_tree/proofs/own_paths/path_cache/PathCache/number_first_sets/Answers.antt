use Rattle.std.proofs.Common.{◌≡◌, ℕ, ◌<◌, [], length, inr, subst, sym, ap, ◌∙◌, arith}
use Rattle.mapf_tree.specs.Prelude.{slice_index, Problem, PathCache, HasSet}
use Rattle.mapf_tree.proofs.own_paths.PathCaches.{each_more, sets_begun, agents_at_node}
use Rattle.mapf_tree.proofs.own_paths.path_cache.PathCache.number_first_sets.Goals as goal

pub loop-agent-preserved : goal.loop-agent-preserved
loop-agent-preserved c =
    let sets = c.first_set.new.self.sets in
    let kept : (k : ℕ) → k < c.loop-agent.agent → HasSet sets (slice_index c.loop-agent.firsts.items k) k [] =
    λ k l. c.first_set.ensures.kept (slice_index c.loop-agent.firsts.items k) k [] (c.loop-agent.invariant.2 k l) in
    let more = each_more (λ k n. HasSet sets n k []) c.loop-agent.firsts.items c.push_reserved.new.self.items c.in_ok-set.set c.loop-agent.agent c.push_reserved.ensures.items (c.loop-agent.invariant.1, kept) c.in_ok-set.ensures.set in
    (c.first_set.ensures.problem ∙ c.loop-agent.invariant.0, more.0, more.1, omega (arith, c.push_reserved.ensures.capacity, c.loop-agent.invariant.3))

pub invariant_of-self : goal.invariant_of-self
invariant_of-self c =
    let sets = c.self-2.inside.sets in
    let firsts = c.loop-agent.firsts.items in
    let agents = length c.self-2.inside.problem.now.inst.starts in
    let count : c.loop-agent.agent ≡ agents =
    omega (
      arith,
      c.loop-agent-test.false,
      c.loop-agent.auto.agent-end,
      c.agents-agent-end.ensures.agents,
      agents_at_node c.args.self.now.problem c.args.node.now c.requires,
      ap (λ (p : Problem). length p.inst.starts) (sym c.loop-agent.invariant.0),
      ap (λ (b : PathCache). length b.problem.inst.starts) (sym c.self-2.view_is),
    ) in
    let empty : (k : ℕ) → k < c.loop-agent.agent → HasSet sets (slice_index firsts k) k [] =
    λ k l. subst (λ (b : PathCache). HasSet b.sets (slice_index firsts k) k []) (sym c.self-2.view_is) (c.loop-agent.invariant.2 k l) in
    (c.self-2.invariant.0, inr (sets_begun sets firsts agents (c.loop-agent.invariant.1 ∙ count, subst (λ n. (k : ℕ) → k < n → HasSet sets (slice_index firsts k) k []) count empty)), c.self-2.invariant.2, c.self-2.invariant.3)
