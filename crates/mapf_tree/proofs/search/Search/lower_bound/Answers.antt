use Rattle.std.proofs.Common.{◌≡◌, Ok, Some, None, rules, subst}
use Rattle.std.specs.Option.{option_map}
use Rattle.mapf_tree.specs.Prelude.{node_key, Searched, IsLawful, IsBelowAll}
use Rattle.mapf_tree.proofs.high_level.LowerBounds.{known_is_below}
use Rattle.mapf_tree.proofs.search.Search.lower_bound.Goals as goal

pub returns-in-Ok-None-clause-below : goal.returns-in-Ok-None-clause-below
returns-in-Ok-None-clause-below c =
    let is : c.self.inside.outcome ≡ Ok None = search rules in
    subst (λ (s : Searched). IsBelowAll s.problem c.least_waiting.result) c.self.view_is
    (known_is_below c.self.inside.problem.now c.self.inside.waiting (option_map node_key c.self.inside.last) (Ok None) c.least_waiting.result
    (subst (λ o. IsLawful c.self.inside.problem.now c.self.inside.waiting (option_map node_key c.self.inside.last) o) is c.self.invariant.0) c.least_waiting.ensures)

pub returns-in-Ok-Some-clause-below : goal.returns-in-Ok-Some-clause-below
returns-in-Ok-Some-clause-below c =
    let is : c.self.inside.outcome ≡ Ok (Some c.in-Ok-Some.answer) = search rules in
    subst (λ (s : Searched). IsBelowAll s.problem c.least_stated.result) c.self.view_is
    (known_is_below c.self.inside.problem.now c.self.inside.waiting (option_map node_key c.self.inside.last) (Ok (Some c.in-Ok-Some.answer)) c.least_stated.result
    (subst (λ o. IsLawful c.self.inside.problem.now c.self.inside.waiting (option_map node_key c.self.inside.last) o) is c.self.invariant.0) c.least_stated.ensures)
