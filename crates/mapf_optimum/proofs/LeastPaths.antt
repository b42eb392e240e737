-- What least paths cost is a lower bound on each candidate.
use Rattle.std.proofs.Common.{ℕ, ◌<◌, ◌≤◌, List, [], length, get_or, subst, sym, ◌∙◌, ⊎_elim, arith}
use Rattle.std.proofs.lemmas.Bool.{cases_lt}
use Rattle.std.specs.List.{sum_by}
use Rattle.std.proofs.lemmas.List.Sums.{get_or-le-sum_by}
use Rattle.mapf_grid.proofs.Lists.{sum_by-le}
use Rattle.mapf_plan.specs.Path.{cost}
use Rattle.mapf_plan.specs.Plan.{path_of, plan_cost}
use Rattle.mapf_low.specs.declared.constraint.Constraint.{Constraint}
use Rattle.mapf_low.proofs.OwnPaths.{own_path_costs}
use Rattle.mapf_tree.specs.Problem.{Problem}
use Rattle.mapf_tree.specs.Tree.{IsAllowedFor, IsOwnPathOf}
use Rattle.mapf_optimum.specs.FreeTree.{IsCandidate, IsLeastPathOf, HaveLeastPaths, AreLeastCosts, IsLowerBoundOf}
use Rattle.mapf_optimum.proofs.Costs.{costs_at_most}

-- each agent's path in a candidate is one that it may take
pub takes_allowed : (problem : Problem) (sets : List (List Constraint)) (other : List (List ℕ)) → IsCandidate problem sets other → (i : ℕ) → i < length problem.inst.starts →
    IsAllowedFor problem i (get_or sets i []) (path_of other i)
takes_allowed problem sets other candidate i h = record {
  path = candidate.valid.paths i h;
  within = omega (arith, candidate.within, get_or-le-sum_by cost other i [] (subst (λ k. i < k) (sym candidate.valid.agents) h));
  obeys = candidate.obeys i h;
}

-- and costs no less than a least one
pub pays_least : (problem : Problem) (sets : List (List Constraint)) (plan : List (List ℕ)) → HaveLeastPaths problem sets plan → (other : List (List ℕ)) → IsCandidate problem sets other →
    (i : ℕ) → i < length problem.inst.starts → cost (path_of plan i) ≤ cost (path_of other i)
pays_least problem sets plan has other candidate i h = (has.each i h).least (path_of other i) (takes_allowed problem sets other candidate i h)

-- so least paths cost no more than a candidate
pub least_paths_are_below : (problem : Problem) (sets : List (List Constraint)) (plan : List (List ℕ)) → HaveLeastPaths problem sets plan → IsLowerBoundOf problem sets (plan_cost plan)
least_paths_are_below problem sets plan has other candidate =
    sum_by-le cost [] plan other (has.agents ∙ sym candidate.valid.agents) (λ i h. pays_least problem sets plan has other candidate i (subst (λ n. i < n) has.agents h))

-- each agent's path in a candidate costs no less than its least cost
pub pays_cost : (problem : Problem) (sets : List (List Constraint)) (costs : List ℕ) → AreLeastCosts problem sets costs → (other : List (List ℕ)) → IsCandidate problem sets other →
    (i : ℕ) → i < length problem.inst.starts → get_or costs i 0 ≤ cost (path_of other i)
pays_cost problem sets costs are other candidate i h =
    let w = are.each i h in omega (arith, w.2, w.1.least (path_of other i) (takes_allowed problem sets other candidate i h))

-- so what least paths cost is no more than a candidate costs
pub costs_below : (problem : Problem) (sets : List (List Constraint)) (costs : List ℕ) → AreLeastCosts problem sets costs → IsLowerBoundOf problem sets (sum_by (λ c. c) costs)
costs_below problem sets costs are other candidate =
    costs_at_most costs other (are.agents ∙ sym candidate.valid.agents) (λ i h. pays_cost problem sets costs are other candidate i (subst (λ n. i < n) are.agents h))

-- an own path is a least one
pub own_is_least : (problem : Problem) (i : ℕ) (cs : List Constraint) (path : List ℕ) → IsOwnPathOf problem i cs path → IsLeastPathOf problem i cs path
own_is_least problem i cs path own = record { allowed = own.member; least = λ other allowed. own_path_costs _ _ _ _ _ _ _ own allowed }

-- a least path within a bound is one within a higher bound
pub least_by_bound : (problem : Problem) (lower i : ℕ) (cs : List Constraint) (path : List ℕ) → lower ≤ problem.bound → IsLeastPathOf (record problem { bound = lower }) i cs path → IsLeastPathOf problem i cs path
least_by_bound problem lower i cs path l is = record {
  allowed = record { path = is.allowed.path; within = omega (arith, l, is.allowed.within); obeys = is.allowed.obeys };
  least = λ other a.
      ⊎_elim (λ h. omega (arith, h, is.allowed.within)) (λ h. is.least other (record { path = a.path; within = h; obeys = a.obeys })) (cases_lt lower (cost other));
}
