-- The root of a search: each agent's own path under no constraints.
use Rattle.std.proofs.Common.{◌≡◌, ℕ, ◌<◌, ◌≤◌, List, [], ◌++◌, map, length, get_or, replicate, Option, Some, None, MatchOption, subst, sym, ap, ◌∙◌, refl, arith, IsPermutation}
use Rattle.std.specs.Option.{option_to_list}
use Rattle.std.specs.List.{sum_by}
use Rattle.mapf_plan.specs.Path.{cost}
use Rattle.std.proofs.lemmas.List.{get_or-replicate, length-replicate}
use Rattle.std.proofs.lemmas.List.Elements.{All-nil, All-cons}
use Rattle.std.proofs.lemmas.List.Sorted.{All-permutation, Contains-permutation}
use Rattle.mapf_grid.proofs.Members.{here}
use Rattle.mapf_plan.specs.declared.conflict.Conflict.{Conflict}
use Rattle.mapf_plan.specs.Plan.{path_of, plan_cost, IsFirstConflict, HasNoConflict, IsValid}
use Rattle.mapf_plan.proofs.Conflicts.{first_early}
use Rattle.mapf_low.specs.declared.constraint.Constraint.{Constraint}
use Rattle.mapf_low.specs.Constraints.{Obeys}
use Rattle.mapf_tree.specs.Problem.{Problem}
use Rattle.mapf_tree.specs.Tree.{root_of}
use Rattle.mapf_tree.specs.Laws.{ObeysNode}
use Rattle.mapf_tree.specs.Family.{AreRootPaths, IsRoot}
use Rattle.mapf_tree.proofs.solutions.Descent.{obeyed_is_in_cost}
use Rattle.mapf_optimum.specs.FreeTree.{FreeNode, unnamed, IsFreeNode, IsChoice, IsCandidate, IsLeastPathOf, AreLeastCosts, HaveLeastPaths}
use Rattle.mapf_optimum.specs.FreeSearch.{IsFreshNode, IsRootOf, IsUnderWay}
use Rattle.mapf_optimum.specs.Told.{IsBegun}
use Rattle.mapf_optimum.proofs.LeastPaths.{own_is_least, least_paths_are_below}
use Rattle.mapf_optimum.proofs.Fresh.{costs_of_least, fresh_is, least_allowed, sum_of_costs}

-- the first conflict of a node's plan is one that it may branch on
pub choice_of : (p : Problem) (node : FreeNode) (found : Option Conflict) → IsFreeNode p node → MatchOption found (HasNoConflict p.rule node.plan) (λ c. IsFirstConflict p.rule node.plan c) →
    MatchOption found (HasNoConflict p.rule node.plan) (IsChoice p node.plan)
choice_of p node None is none = none
choice_of p node (Some c) is first = (first.member, first_early p.rule node.plan p.bound (λ i h. (is.paths.each i (subst (λ k. i < k) is.paths.agents h)).within) c first)

module _ (p : Problem) where
  -- no constraint for any agent
  abbrev free_sets : List (List Constraint)
  free_sets = replicate (length p.inst.starts) []

  free : (i : ℕ) → i < length p.inst.starts → get_or free_sets i [] ≡ []
  free i h = get_or-replicate (length p.inst.starts) i [] [] h

  -- each plan obeys them
  obeys_free : (plan : List (List ℕ)) → ObeysNode p (unnamed free_sets) plan
  obeys_free plan i h = subst (λ cs. Obeys cs (path_of plan i)) (sym (free i h)) tt

  -- each valid plan within the bound is a candidate
  pub is_candidate : (plan : List (List ℕ)) → IsValid p.rule p.inst plan → plan_cost plan ≤ p.bound → IsCandidate p free_sets plan
  is_candidate plan valid within = record { valid = valid; within = within; obeys = obeys_free plan }

  -- an agent has no own path: no plan
  pub no_root : IsRoot p None → IsRootOf p None
  no_root none plan valid within = let w = obeyed_is_in_cost p (root_of p) plan valid within (obeys_free plan) in none w.0 w.1

  -- own paths are least paths
  root_paths : (paths : List (List ℕ)) → AreRootPaths p paths → HaveLeastPaths p free_sets paths
  root_paths paths are = record {
    agents = are.each;
    each = λ i h. subst (λ cs. IsLeastPathOf p i cs (path_of paths i)) (sym (free i h)) (own_is_least p i [] (path_of paths i) (are.own i h));
  }

  -- that cost too much: no plan
  pub too_dear : (paths : List (List ℕ)) → AreRootPaths p paths → p.bound < plan_cost paths → IsRootOf p None
  too_dear paths are dear plan valid within = absurd (omega (arith, dear, within, least_paths_are_below p free_sets paths (root_paths paths are) plan (is_candidate plan valid within)))

  -- or that are the root's plan
  pub root_is : (paths : List (List ℕ)) (costs : List ℕ) (node : FreeNode) → AreRootPaths p paths → costs ≡ map cost paths → plan_cost paths ≤ p.bound → IsFreshNode free_sets costs paths node → IsRootOf p (Some node)
  root_is paths costs node are same within fresh = (fresh_is p node free_sets costs paths fresh (omega (arith, length-replicate {A = List Constraint} (length p.inst.starts) [])) least (least_allowed p free_sets paths has) (omega (arith, sums, within)), fresh.same_sets)
    where
      has : HaveLeastPaths p free_sets paths
      has = root_paths paths are

      sums : sum_by (λ k. k) costs ≡ plan_cost paths
      sums = ap (λ l. sum_by (λ k. k) l) same ∙ sum_of_costs paths

      least : AreLeastCosts p free_sets costs
      least = subst (AreLeastCosts p free_sets) (sym same) (costs_of_least p free_sets paths has)

-- where a search begins, no valid plan is lost
pub begins : (p : Problem) (waiting : List FreeNode) → IsBegun p waiting → IsUnderWay p waiting
begins p waiting begun = record {
  free = All-permutation (IsFreeNode p) l waiting begun.2 (at_root begun.0 begun.1).free;
  covers = λ plan valid within. let w = (at_root begun.0 begun.1).covers plan valid within in (w.0, Contains-permutation l waiting w.0 begun.2 w.1, w.2);
}
  where
    l : List FreeNode
    l = option_to_list begun.0 ++ []

    at_root : (found : Option FreeNode) → IsRootOf p found → IsUnderWay p (option_to_list found ++ [])
    at_root None is = record { free = All-nil (IsFreeNode p); covers = λ plan valid within. absurd (is plan valid within) }
    at_root (Some node) is = record {
      free = All-cons (IsFreeNode p) node [] is.0 (All-nil (IsFreeNode p));
      covers = λ plan valid within. (node, here [] refl, subst (λ l. IsCandidate p l plan) (sym is.1) (is_candidate p plan valid within));
    }

-- what was put in where nothing waited
pub begun_with : (p : Problem) (found : Option FreeNode) (old new : List FreeNode) → IsRootOf p found → old ≡ [] → IsPermutation (option_to_list found ++ old) new → IsBegun p new
begun_with p found old new root none put = (found, root, subst (λ l. IsPermutation (option_to_list found ++ l) new) none put)
