use Rattle.mapf_tree.proofs.Prelude.{◌≡◌, ◌<◌, [], ◌∷◌, length, get_or, set, subst, ◌∙◌, arith, get_or_default_zero}
use Rattle.mapf_tree.specs.Prelude.{Changed, IsExtended, AreSetsOf}
use Rattle.mapf_tree.proofs.own_paths.PathCaches.{sets_turned_on}
use Rattle.mapf_tree.proofs.own_paths.path_cache.node_numbers.extend_set.Goals as goal

pub returns-in-Some : goal.returns-in-Some
returns-in-Some c told cs are =
    let sets = c.args.known.now in
    let numbers = c.args.sets.now.items in
    let inside : c.change.inside.agent < length numbers = omega (arith, c.if-change-len.false, c.len.ensures) in
    let at : c.index.result.now ≡ get_or numbers c.change.inside.agent 0 = c.index.ensures ∙ get_or_default_zero numbers c.change.inside.agent c.index.result.now inside in
    subst (λ (x : Changed). AreSetsOf sets (set numbers c.change.inside.agent c.in-Some.extension.now.after) (set cs x.agent (x.constraint ∷ get_or cs x.agent []))) c.change.view_is
    (sets_turned_on sets numbers cs c.change.inside.agent c.in-Some.extension.now.after c.change.inside.constraint inside are (subst (λ n. IsExtended sets n c.change.inside.constraint c.in-Some.extension.now.after) at c.in-Some.ensures.0))
