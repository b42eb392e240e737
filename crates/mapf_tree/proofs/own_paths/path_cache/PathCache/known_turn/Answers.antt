use Rattle.mapf_tree.proofs.Prelude.{◌≡◌, ◌<◌, get_or, length, Some, option_map, subst, subst₂, sym, ◌∙◌, arith, get_or_default_zero}
use Rattle.mapf_tree.specs.Prelude.{IfSome, Leaves, Changed, PathCache, IsExtended, IsOwnIn, IsNumberOf, IsTurnAt, GivesOwn, AreKnown}
use Rattle.mapf_tree.proofs.sides.SideNodes.{agent_inside}
use Rattle.mapf_tree.proofs.own_paths.PathCaches.{turn_at, no_turn_at}
use Rattle.mapf_tree.proofs.own_paths.path_cache.PathCache.known_turn.Goals as goal

pub returns-in_default-path : goal.returns-in_default-path
returns-in_default-path c =
    let cache = c.args.self.now in
    let node = c.args.node.now in
    let sets = c.args.at.now.sets.items in
    let agent = c.agent_of-agent.result in
    let constraint = c.constraint_of-constraint.result in
    let after = c.in-Some.extension.now.after in
    let is : node.conflict ≡ Some c.unwrap-conflict.result = sym c.conflict.ensures.conflict ∙ c.unwrap-conflict.ensures in
    let inside : agent < length node.constraints = omega (arith, c.agent_of-agent.ensures, agent_inside cache.problem node c.requires.node.of c.unwrap-conflict.result c.args.side c.requires.node.stands is, c.requires.node.stands.agents) in
    let set : c.index-set.result.now ≡ get_or sets agent 0 = c.index-set.ensures ∙ get_or_default_zero sets agent c.index-set.result.now (omega (arith, inside, c.requires.at.sets.each)) in
    no_turn_at cache node c.args.side sets c.unwrap-conflict.result agent c.bound_for-bound.result after constraint c.requires.at.sets is c.agent_of-agent.ensures c.constraint_of-constraint.ensures inside
    (subst₂ (λ (b : PathCache) n. IsExtended b.sets n constraint after) c.self.view_is set c.in-Some.ensures.0) (subst (λ (b : PathCache). Leaves b.problem node.plan agent c.bound_for-bound.result) c.self.view_is c.bound_for-bound.ensures.leaves)
    (subst (IsOwnIn cache after c.bound_for-bound.result) c.in_default-path.is c.in-Known.ensures.own)

pub returns-in_ok-try_clone-in-Some-change : goal.returns-in_ok-try_clone-in-Some-change
returns-in_ok-try_clone-in-Some-change c =
    let cache = c.args.self.now in
    let node = c.args.node.now in
    let sets = c.args.at.now.sets.items in
    let agent = c.agent_of-agent.result in
    let constraint = c.constraint_of-constraint.result in
    let after = c.in-Some.extension.now.after in
    let is : node.conflict ≡ Some c.unwrap-conflict.result = sym c.conflict.ensures.conflict ∙ c.unwrap-conflict.ensures in
    let inside : agent < length node.constraints = omega (arith, c.agent_of-agent.ensures, agent_inside cache.problem node c.requires.node.of c.unwrap-conflict.result c.args.side c.requires.node.stands is, c.requires.node.stands.agents) in
    let set : c.index-set.result.now ≡ get_or sets agent 0 = c.index-set.ensures ∙ get_or_default_zero sets agent c.index-set.result.now (omega (arith, inside, c.requires.at.sets.each)) in
    let given = subst (λ x. GivesOwn c.self.inside.sets after constraint (option_map (λ d. d.value) x)) c.in-Some-change.is c.in-Some.ensures.1 in
    subst (λ (x : Changed). IsTurnAt cache node c.args.side c.in-Some-path.number x) (sym c.in_ok-try_clone-in-Some-change.ensures)
    (turn_at cache node c.args.side sets c.unwrap-conflict.result agent c.bound_for-bound.result after constraint c.in-Some-path.number c.in-Some-change.change.value c.requires.at.sets is c.agent_of-agent.ensures c.constraint_of-constraint.ensures inside
    (subst₂ (λ (b : PathCache) n. IsExtended b.sets n constraint after) c.self.view_is set c.in-Some.ensures.0) (subst (λ (b : PathCache). Leaves b.problem node.plan agent c.bound_for-bound.result) c.self.view_is c.bound_for-bound.ensures.leaves)
    (subst (IsOwnIn cache after c.bound_for-bound.result) c.in-Some-path.is c.in-Known.ensures.own) (subst (λ (b : PathCache). AreKnown b.problem b.paths b.sets) c.self.view_is c.self.invariant.0)
    (subst (λ o. IfSome o (IsNumberOf cache.sets after)) c.in-Some-path.is c.in-Known.ensures.number) (subst (λ (b : PathCache). GivesOwn b.sets after constraint (Some c.in-Some-change.change.value)) c.self.view_is given))
