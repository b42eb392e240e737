use Rattle.std.proofs.Common.{◌≡◌, ◌∙◌, [], ◌∷◌, ◌++◌, sym, ap, subst, map, length, Some, arith}
use Rattle.std.specs.Prelude.{slice_get}
use Rattle.std.specs.Arc.{arc_value}
use Rattle.std.proofs.lemmas.List.{map-append, length-map}
use Rattle.mapf_plan.specs.KnownPaths.{KnownPaths, AreRight}
use Rattle.mapf_plan.proofs.cache.PathTimes.{are_right_in_more, number_stays, number_added}
use Rattle.mapf_plan.proofs.cache.known_paths.KnownPaths.number.Goals as goal

pub invariant_of-self-2 : goal.invariant_of-self-2
invariant_of-self-2 c =
    let items = c.self.inside.paths.items in
    subst (λ paths. AreRight c.self.inside.rule paths c.self.inside.times) (sym (ap (map arc_value) c.in_ok-push.ensures.items ∙ map-append arc_value items (c.args.path ∷ [])))
    (are_right_in_more c.self.inside.rule (map arc_value items) (arc_value c.args.path) c.self.inside.times c.self.invariant)

pub returns-clause-keeps : goal.returns-clause-keeps
returns-clause-keeps c n known at =
    let items = c.self.inside.paths.items in
    subst (λ xs. slice_get (map arc_value xs) n ≡ Some known) (sym c.in_ok-push.ensures.items)
    (subst (λ xs. slice_get xs n ≡ Some known) (sym (map-append arc_value items (c.args.path ∷ [])))
    (number_stays (map arc_value items) (arc_value c.args.path) known n (subst (λ (s : KnownPaths). slice_get s.paths n ≡ Some known) (sym c.self.view_is) at)))

pub returns-clause-number : goal.returns-clause-number
returns-clause-number c =
    let items = c.self.inside.paths.items in let path = arc_value c.args.path in
    let next : length items ≡ c.len-number.result = omega (arith, c.self.inside.paths.ok, c.len-number.ensures) in
    subst (λ xs. slice_get (map arc_value xs) c.len-number.result ≡ Some path) (sym c.in_ok-push.ensures.items)
    (subst (λ xs. slice_get xs c.len-number.result ≡ Some path) (sym (map-append arc_value items (c.args.path ∷ [])))
    (subst (λ n. slice_get (map arc_value items ++ path ∷ []) n ≡ Some path) (length-map items arc_value ∙ next) (number_added (map arc_value items) path)))
