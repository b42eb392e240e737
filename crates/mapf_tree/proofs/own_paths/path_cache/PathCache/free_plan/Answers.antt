use Rattle.mapf_tree.proofs.Prelude.{◌∙◌, subst, sym}
use Rattle.mapf_tree.specs.Prelude.{IfSome, IsAt, PathCache}
use Rattle.mapf_tree.proofs.own_paths.FreePlans.{at_node}
use Rattle.mapf_tree.proofs.own_paths.path_cache.PathCache.free_plan.Goals as goal

pub returns-clause-plan : goal.returns-clause-plan
returns-clause-plan c m stands =
    let cache : PathCache = record { problem = c.self.inside.problem.now; sets = c.self.inside.sets; paths = c.self.inside.paths.paths } in
    let node = c.args.node.now in
    let is = subst (λ o. IfSome o (IsAt c.numbers_at.new.self node)) c.in-Some.is c.in_ok-at.ensures.numbers in
    at_node cache node c.in-Some.at _ m (subst (λ (b : PathCache). IsAt b node c.in-Some.at) (sym c.self.view_is) is) (c.in_ok-from_slice.ensures.items ∙ c.as_slice.ensures.value)
    c.in_ok-copy_of.ensures.numbers c.in_ok-copy_of.ensures.conflicts c.key.ensures.cost stands
