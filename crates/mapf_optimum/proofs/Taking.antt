-- Agents that take other paths.
use Rattle.std.proofs.Common.{◌≡◌, ℕ, ◌+◌, ◌<◌, ◌≤◌, List, [], length, get_or, set, Option, Some, None, subst, subst₂, ap, ◌∙◌, arith, length-set, below_more}
use Rattle.std.proofs.lemmas.List.{get_or_default}
use Rattle.mapf_grid.proofs.Lists.{set_cases}
use Rattle.mapf_plan.specs.Path.{cost}
use Rattle.mapf_plan.specs.Plan.{path_of}
use Rattle.mapf_low.specs.declared.constraint.Constraint.{Constraint}
use Rattle.mapf_tree.specs.Problem.{Problem}
use Rattle.mapf_tree.specs.Tree.{IsAllowedFor}
use Rattle.mapf_optimum.specs.FreeSearch.{IsLeastWithin}
use Rattle.mapf_optimum.specs.FreeTree.{AreLeastCosts, HaveAllowedPaths}

-- an agent's set, as it is read
pub set_at : (sets : List (List Constraint)) (a : ℕ) (cs : List Constraint) → cs ≡ get_or sets a cs → a < length sets → cs ≡ get_or sets a []
set_at sets a cs is h = is ∙ get_or_default sets a cs [] h

-- what a path costs, as it is read
pub path_cost_at : (plan : List (List ℕ)) (i k : ℕ) (p : List ℕ) → k ≡ cost p → p ≡ get_or plan i p → i < length plan → k ≡ cost (path_of plan i)
path_cost_at plan i k p ek here h = ek ∙ ap cost (here ∙ get_or_default plan i p [] h)

module _ (problem : Problem) (sets : List (List Constraint)) where
  -- another path that the agent may take
  pub takes_another : (paths : List (List ℕ)) (a : ℕ) (path : List ℕ) → HaveAllowedPaths problem sets paths → IsAllowedFor problem a (get_or sets a []) path → HaveAllowedPaths problem sets (set paths a path)
  takes_another paths a path has allowed = record {
    agents = length-set paths a path ∙ has.agents;
    each = λ i k.
        set_cases (λ p. IsAllowedFor problem i (get_or sets i []) p) paths a i path [] (omega (arith, k, has.agents))
        (λ e. subst (λ j. IsAllowedFor problem j (get_or sets j []) path) e allowed) (λ _. has.each i k);
  }

  -- under its set as it is read
  pub takes_read : (paths : List (List ℕ)) (a : ℕ) (path : List ℕ) (cs : List Constraint) → HaveAllowedPaths problem sets paths → cs ≡ get_or sets a cs → a < length sets → IsAllowedFor problem a cs path →
      HaveAllowedPaths problem sets (set paths a path)
  takes_read paths a path cs has is h allowed = takes_another paths a path has (subst (λ l. IsAllowedFor problem a l path) (set_at sets a cs is h) allowed)

  -- those of the first agents cost no more than least paths
  abbrev pub CostLeast : List ℕ → List (List ℕ) → ℕ → Type 0
  CostLeast costs paths n = (i : ℕ) → i < n → cost (path_of paths i) ≤ get_or costs i 0

  module _ (costs : List ℕ) (are : AreLeastCosts problem sets costs) (a : ℕ) (h : a < length problem.inst.starts) (cs : List Constraint) (read : cs ≡ get_or sets a cs) (inside : a < length sets) (bound : ℕ) (same : bound ≡ problem.bound) where
    as_set : cs ≡ get_or sets a []
    as_set = set_at sets a cs read inside

    -- no path that the agent may take costs less than its least cost
    pub no_cheaper : (path : List ℕ) → IsAllowedFor (record problem { bound = bound }) a cs path → get_or costs a 0 ≤ cost path
    no_cheaper path allowed =
        let w = are.each a h in omega (arith, w.2, w.1.least path (subst₂ (λ b l. IsAllowedFor (record problem { bound = b }) a l path) same as_set allowed))

    there : (found given : Option (List ℕ)) → IsLeastWithin problem bound a cs found → found ≡ given → IsLeastWithin problem problem.bound a (get_or sets a []) given
    there found given is e = subst (λ f. IsLeastWithin problem problem.bound a (get_or sets a []) f) e (subst₂ (λ b l. IsLeastWithin problem b a l found) same as_set is)

    -- there is a path within the bound
    pub some_path : (found : Option (List ℕ)) → IsLeastWithin problem bound a cs found → ¬ (found ≡ None)
    some_path found is e = let w = are.each a h in there found None is e w.0 w.1.allowed

    -- a least one costs no more than the least cost
    pub costs_least : (found : Option (List ℕ)) (path : List ℕ) → IsLeastWithin problem bound a cs found → found ≡ Some path → cost path ≤ get_or costs a 0
    costs_least found path is e = let w = are.each a h in omega (arith, w.2, (there found (Some path) is e).least w.0 w.1.allowed)

    -- and may be taken
    pub takes_least : (paths : List (List ℕ)) → HaveAllowedPaths problem sets paths → (found : Option (List ℕ)) (path : List ℕ) → IsLeastWithin problem bound a cs found → found ≡ Some path → HaveAllowedPaths problem sets (set paths a path)
    takes_least paths has found path is e = takes_another paths a path has (there found (Some path) is e).allowed

  -- one more agent takes a least path
  pub one_less : (costs : List ℕ) (paths : List (List ℕ)) (a : ℕ) (path : List ℕ) → a < length paths → cost path ≤ get_or costs a 0 → CostLeast costs paths a → CostLeast costs (set paths a path) (a + 1)
  one_less costs paths a path h few all i k =
      set_cases (λ p. cost p ≤ get_or costs i 0) paths a i path [] (omega (arith, k, h))
      (λ e. subst (λ j. cost path ≤ get_or costs j 0) e few) (λ ne. all i (below ne))
    where
      below : ¬ (a ≡ i) → i < a
      below ne = omega (arith, k, ne)

  -- or has one
  pub one_stays : (costs : List ℕ) (paths : List (List ℕ)) (a : ℕ) → cost (path_of paths a) ≤ get_or costs a 0 → CostLeast costs paths a → CostLeast costs paths (a + 1)
  one_stays costs paths a few all = below_more _ a all few
