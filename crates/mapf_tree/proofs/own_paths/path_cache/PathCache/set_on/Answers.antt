use Rattle.mapf_tree.proofs.Prelude.{◌≡◌, ◌<◌, length, get_or, subst, subst₂, sym, ap, ◌∙◌, get_or_default_zero}
use Rattle.mapf_tree.specs.Prelude.{slice_index, agent_on, constraint_on, PathCache, IsExtension, IsExtended}
use Rattle.mapf_tree.proofs.own_paths.PathCaches.{extension_tells}
use Rattle.mapf_tree.proofs.own_paths.FreeSides.{free_set_inside, free_extension}
use Rattle.mapf_tree.proofs.own_paths.path_cache.PathCache.set_on.Goals as goal

pub returns-in-Known-clause-set : goal.returns-in-Known-clause-set
returns-in-Known-clause-set c =
    let cache = c.args.self.now in
    let sets = c.args.free.now.sets.items in
    let agent = agent_on c.args.conflict.now c.args.side in
    let after = c.in-Some.extension.now.after in
    let inside : agent < length sets = free_set_inside cache c.args.free.now c.args.conflict.now c.args.side c.requires.free c.requires.conflict in
    let in_sets : c.agent_of-agent.result < length sets = subst (λ i. i < length sets) (sym c.agent_of-agent.ensures) inside in
    let before : c.index-before.result.now ≡ get_or sets agent 0 =
    c.index-before.ensures ∙ get_or_default_zero sets c.agent_of-agent.result c.index-before.result.now in_sets ∙ ap (λ i. get_or sets i 0) c.agent_of-agent.ensures in
    subst (λ k. IsExtended cache.sets (slice_index sets agent) k after) c.constraint_of-constraint.ensures
    (subst₂ (λ (b : PathCache) n. IsExtended b.sets n c.constraint_of-constraint.result after) c.self.view_is before c.in-Some.ensures.0)

pub extend-requires-clause-extended : goal.extend-requires-clause-extended
extend-requires-clause-extended c =
    let old = c.args.self.now in
    let new = c.set_of.new.self in
    let free = c.args.free.now in
    let conflict = c.args.conflict.now in
    let side = c.args.side in
    let sets = free.sets.items in
    let agent = agent_on conflict side in
    let after = c.in_ok-after.after in
    let inside : agent < length sets = free_set_inside old free conflict side c.requires.free c.requires.conflict in
    let in_sets : c.agent_of-agent.result < length sets = subst (λ i. i < length sets) (sym c.agent_of-agent.ensures) inside in
    let before : c.index-before.result.now ≡ get_or sets agent 0 =
    c.index-before.ensures ∙ get_or_default_zero sets c.agent_of-agent.result c.index-before.result.now in_sets ∙ ap (λ i. get_or sets i 0) c.agent_of-agent.ensures in
    let is : IsExtension new.sets (slice_index sets agent) (constraint_on conflict side) after =
    free_extension old new free conflict side c.in_ok-query.query after c.requires.free c.requires.conflict c.in_ok-after.ensures.grows c.in_ok-query.ensures.agent c.in_ok-query.ensures.constraints c.in_ok-after.ensures.set in
    subst₂ (λ (b : PathCache) n. IsExtension b.sets n c.constraint_of-constraint.result after) (sym c.self-2.view_is) (sym before)
    (subst (λ k. IsExtension new.sets (slice_index sets agent) k after) (sym c.constraint_of-constraint.ensures) is)

pub returns-clause-set : goal.returns-clause-set
returns-clause-set c =
    let old = c.args.self.now in
    let new = c.set_of.new.self in
    let free = c.args.free.now in
    let conflict = c.args.conflict.now in
    let side = c.args.side in
    let number = slice_index free.sets.items (agent_on conflict side) in
    let constraint = constraint_on conflict side in
    let after = c.in_ok-after.after in
    subst (λ sets. IsExtended sets number constraint after) (sym (c.extend.ensures ∙ ap (λ (b : PathCache). b.sets) c.self-2.view_is))
    (extension_tells new.sets number constraint after
    (free_extension old new free conflict side c.in_ok-query.query after c.requires.free c.requires.conflict c.in_ok-after.ensures.grows c.in_ok-query.ensures.agent c.in_ok-query.ensures.constraints c.in_ok-after.ensures.set))
