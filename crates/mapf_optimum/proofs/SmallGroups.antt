-- A few agents by themselves, of which least paths are known.
use Rattle.std.proofs.Common.{◌≡◌, ℕ, ◌≤◌, List, map, length, subst, sym, arith}
use Rattle.std.specs.List.{sum_by}
use Rattle.std.proofs.lemmas.List.{length-map}
use Rattle.mapf_plan.specs.Path.{cost}
use Rattle.mapf_plan.specs.Plan.{path_of}
use Rattle.mapf_low.specs.declared.constraint.Constraint.{Constraint}
use Rattle.mapf_tree.specs.Problem.{Problem}
use Rattle.mapf_optimum.specs.FreeTree.{FreeNode, AreLeastCosts, HaveLeastPaths, IsFreeNode, IsGroup, IsLowerBoundOf, paths_in}
use Rattle.mapf_optimum.specs.FreeSearch.{IsFreshNode}
use Rattle.mapf_optimum.proofs.Fresh.{costs_of_least, fresh_is, least_allowed}
use Rattle.mapf_optimum.proofs.GroupSums.{are_few}
use Rattle.mapf_optimum.proofs.LeastPaths.{costs_below}

-- the paths of a group are no more than all agents
pub few_paths : (n most : ℕ) (plan : List (List ℕ)) (agents : List ℕ) → IsGroup n agents → n ≤ most → length (paths_in plan agents) ≤ most
few_paths n most plan agents is few = omega (arith, length-map agents (λ i. path_of plan i), are_few n agents is.once is.inside, few)

module _ (problem : Problem) (sets : List (List Constraint)) (costs : List ℕ) (plan : List (List ℕ)) (have : HaveLeastPaths problem sets plan) (same : costs ≡ map cost plan) where
  are : AreLeastCosts problem sets costs
  are = subst (AreLeastCosts problem sets) (sym same) (costs_of_least problem sets plan have)

  -- what least paths cost is no more than a candidate costs
  pub sum_below : IsLowerBoundOf problem sets (sum_by (λ k. k) costs)
  sum_below = costs_below problem sets costs are

  -- a node of which nothing else is known
  pub fresh_from_least : (node : FreeNode) → IsFreshNode sets costs plan node → length sets ≡ length problem.inst.starts → sum_by (λ k. k) costs ≤ problem.bound → IsFreeNode problem node
  fresh_from_least node fresh size within = fresh_is problem node sets costs plan fresh size are (least_allowed problem sets plan have) within
