use Rattle.mapf_tree.proofs.Prelude.{◌≡◌, get_or, Some, subst₂, sym, ap, ◌∙◌, get_or_default_zero}
use Rattle.mapf_tree.specs.Prelude.{slice_get, arc_value, cost, PathCache}
use Rattle.mapf_tree.proofs.own_paths.FreeSides.{path_of_number}
use Rattle.mapf_tree.proofs.own_paths.path_cache.PathCache.cost_in.Goals as goal

pub returns-in-Some : goal.returns-in-Some
returns-in-Some c =
    let numbers = c.args.free.now.plan.numbers.items in
    let path = arc_value c.in-Some.path.now in
    let number : c.index.result.now ≡ get_or numbers c.args.agent 0 = c.index.ensures ∙ get_or_default_zero numbers c.args.agent c.index.result.now c.requires.agent in
    let at : slice_get c.args.self.now.paths (get_or numbers c.args.agent 0) ≡ Some path =
    subst₂ (λ (b : PathCache) n. slice_get b.paths n ≡ Some path) c.self.view_is number c.in-Some.ensures in
    c.cost.ensures.cost ∙ ap cost (c.deref.ensures ∙ sym (path_of_number c.args.self.now.paths numbers c.args.agent path c.requires.agent at))
