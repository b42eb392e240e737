use Rattle.mapf_tree.proofs.Prelude.{◌∙◌, set, subst₂, ap, refl}
use Rattle.mapf_tree.specs.Prelude.{IsKnownPlan, PathCache}
use Rattle.mapf_tree.proofs.own_paths.FreePlans.{on_side}
use Rattle.mapf_tree.proofs.own_paths.path_cache.PathCache.with_side.Goals as goal

pub returns-clause-plan : goal.returns-clause-plan
returns-clause-plan c d on has node under =
    let cache = c.args.self.now in
    let free = c.args.free.now in
    let found = c.args.side.now in
    let next = c.set_path.new.plan in
    on_side cache node free _ d on found has under c.requires.agent
    (ap (λ ns. set ns found.agent found.set) (c.in_ok-sets.ensures.items ∙ c.as_slice.ensures.value))
    (c.in_ok-set_path.ensures.numbers ∙ ap (λ ns. set ns found.agent found.path) c.in_ok-plan.ensures.numbers)
    (subst₂ (λ rule paths. IsKnownPlan (record { rule = rule; paths = paths }) next.numbers.items next.conflicts.items)
    (c.self.invariant.2 ∙ ap (λ (b : PathCache). b.problem.rule) c.self.view_is) (ap (λ (b : PathCache). b.paths) c.self.view_is) c.in_ok-set_path.ensures.plan) refl
