use Rattle.std.proofs.Common.{Some, subst, subst₂, sym, ap, ◌∙◌}
use Rattle.mapf_tree.specs.Prelude.{arc_value, IsOwnWithin, IsOwnPathOf, PathCache}
use Rattle.mapf_tree.proofs.own_paths.PathCaches.{root_own}
use Rattle.mapf_tree.proofs.own_paths.path_cache.PathCache.first_set.Goals as goal

pub add-requires-clause-path : goal.add-requires-clause-path
add-requires-clause-path c =
    let problem = c.args.self.now.problem in
    let agent = c.args.agent in
    subst (λ n. IsOwnWithin problem n agent c.new-2.result (Some (arc_value c.in_ok-path.path))) (sym (c.bound-bound.ensures.bound ∙ ap (λ (b : PathCache). b.problem.bound) c.self.view_is))
    (subst₂ (λ cs path. IsOwnPathOf problem agent cs path) (sym c.new-2.ensures) (sym (c.in_ok-path.ensures.ok ∙ c.in_ok-copy.ensures ∙ c.path.ensures)) (root_own problem c.args.root.now agent c.requires.root c.requires.none c.requires.agent))
