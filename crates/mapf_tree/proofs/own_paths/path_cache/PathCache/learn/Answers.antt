use Rattle.mapf_tree.proofs.Prelude.{◌≡◌, ◌<◌, ◌∙◌, [], get_or, length, subst, subst₂, sym, ap, arith, get_or_default_zero}
use Rattle.mapf_tree.specs.Prelude.{IfSome, Problem, PathCache, HasSet, AreSetsOf, IsExtension}
use Rattle.mapf_tree.proofs.ConstraintSets.{IsWith, with_same}
use Rattle.mapf_tree.proofs.own_paths.path_cache.PathCache.learn.Goals as goal

pub extend-requires-clause-extended : goal.extend-requires-clause-extended
extend-requires-clause-extended c =
    let cache = c.keep_set.new.self in
    let node = c.args.node.now in
    let q = c.args.query.now in
    let agent = c.agent.result in
    let query = c.requires.query in
    let sets = c.in-Some.sets.items in
    let inside : agent < length node.constraints =
    omega (arith, c.agent.ensures.inside, query.0.stands.agents, ap (λ (p : Problem). length p.inst.starts) query.1) in
    let are = subst (λ o. IfSome o (λ found. AreSetsOf cache.sets found.items node.constraints)) c.in-Some.is c.in_ok-sets.ensures in
    let set = are.same agent inside in
    let before : c.index-before.result.now ≡ get_or sets agent 0 = c.index-before.ensures ∙ get_or_default_zero sets agent c.index-before.result.now (omega (arith, inside, are.each)) in
    let more : IsWith c.constraint.result (get_or node.constraints agent []) q.constraints =
    subst₂ (λ k a. IsWith k (get_or node.constraints a []) q.constraints) (sym c.constraint.ensures.constraint) (sym c.agent.ensures.agent) query.2.constraints in
    subst₂ (λ (b : PathCache) n. IsExtension b.sets n c.constraint.result c.in_ok-set.set) (sym c.self.view_is) (sym before) (
      agent,
      set.0,
      q.constraints,
      set.1,
      subst (λ a. HasSet cache.sets c.in_ok-set.set a q.constraints) (sym c.agent.ensures.agent) c.in_ok-set.ensures.set,
      with_same c.constraint.result (get_or node.constraints agent []) set.0 q.constraints (λ x. let one = set.2 x in (one.1, one.0)) more,
    )
