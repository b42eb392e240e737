-- Nodes of which nothing but their sets, their plan and what least paths cost is known.
use Rattle.std.proofs.Common.{◌≡◌, ℕ, ◌≤◌, max, min, true, List, [], ◌∷◌, map, length, false, true≢false, subst, subst₂, sym, ap, refl, ◌∙◌, arith}
use Rattle.std.specs.List.{sum_by}
use Rattle.std.proofs.lemmas.List.{length-map, get_or-map}
use Rattle.std.proofs.lemmas.List.Sums.{sum_by-cons}
use Rattle.mapf_grid.proofs.Members.{nowhere}
use Rattle.mapf_plan.specs.Path.{cost}
use Rattle.mapf_plan.specs.Plan.{path_of, plan_cost}
use Rattle.mapf_low.specs.declared.constraint.Constraint.{Constraint}
use Rattle.mapf_tree.specs.Problem.{Problem}
use Rattle.mapf_optimum.specs.declared.group_bound.GroupBound.{GroupBound}
use Rattle.mapf_optimum.specs.FreeTree.{FreeNode, IsFreeNode, AreGroupBounds, AreLeastCosts, HaveAllowedPaths, HaveLeastPaths, IsLowerBoundOf}
use Rattle.mapf_optimum.specs.FreeSearch.{IsFreshNode}
use Rattle.mapf_optimum.proofs.LeastPaths.{costs_below}

-- least paths are paths that the agents may take
pub least_allowed : (problem : Problem) (sets : List (List Constraint)) (plan : List (List ℕ)) → HaveLeastPaths problem sets plan → HaveAllowedPaths problem sets plan
least_allowed problem sets plan has = record { agents = has.agents; each = λ i h. (has.each i h).allowed }

-- and what they cost are least costs
pub costs_of_least : (problem : Problem) (sets : List (List Constraint)) (plan : List (List ℕ)) → HaveLeastPaths problem sets plan → AreLeastCosts problem sets (map cost plan)
costs_of_least problem sets plan has = record {
  agents = length-map plan cost ∙ has.agents;
  each = λ i h. (path_of plan i, has.each i h, sym (get_or-map cost plan i [] 0 (omega (arith, h, has.agents))));
}

-- which come to what the plan costs
pub sum_of_costs : (plan : List (List ℕ)) → sum_by (λ k. k) (map cost plan) ≡ plan_cost plan
sum_of_costs [] = refl
sum_of_costs (p ∷ ps) = omega (arith, sum_by-cons (λ k. k) (cost p) (map cost ps), sum_by-cons cost p ps, sum_of_costs ps)

-- a node of which nothing else is known
pub fresh_is : (problem : Problem) (node : FreeNode) (sets : List (List Constraint)) (costs : List ℕ) (plan : List (List ℕ)) → IsFreshNode sets costs plan node → length sets ≡ length problem.inst.starts →
    AreLeastCosts problem sets costs → HaveAllowedPaths problem sets plan → sum_by (λ k. k) costs ≤ problem.bound → IsFreeNode problem node
fresh_is problem node sets costs plan fresh size least paths within = record {
  agents = ap length fresh.same_sets ∙ size;
  costs = there;
  paths = subst₂ (λ l p. HaveAllowedPaths problem l p) (sym fresh.same_sets) (sym fresh.same_plan) paths;
  groups = subst (AreGroupBounds problem node.sets) (sym fresh.no_groups) (λ g i. absurd (nowhere i));
  alone = omega (arith, fresh.by_cost, sums);
  dear = λ bounded. absurd (true≢false (sym bounded ∙ fresh.unbounded));
  within = omega (arith, fresh.by_cost, within);
  below = λ other candidate. omega (arith, fresh.by_cost, sums, costs_below problem node.sets node.costs there other candidate);
}
  where
    there : AreLeastCosts problem node.sets node.costs
    there = subst₂ (λ l k. AreLeastCosts problem l k) (sym fresh.same_sets) (sym fresh.same_costs) least

    sums : sum_by (λ k. k) node.costs ≡ sum_by (λ k. k) costs
    sums = ap (λ l. sum_by (λ k. k) l) fresh.same_costs

-- a node with a greater label, which is a lower bound within the bound
pub raised_is : (problem : Problem) (n : FreeNode) (least label : ℕ) → IsFreeNode problem n → IsLowerBoundOf problem n.sets least → label ≡ max n.label (min least problem.bound) → IsFreeNode problem (record n { label = label })
raised_is problem n least label is below same = record {
  agents = is.agents;
  costs = is.costs;
  paths = is.paths;
  groups = is.groups;
  alone = omega (arith, same, is.alone);
  dear = λ bounded. omega (arith, same, is.dear bounded);
  within = omega (arith, same, is.within);
  below = λ other candidate. omega (arith, same, is.below other candidate, below other candidate);
}

-- a node with another plan, that is to be bounded again
pub showing_is : (problem : Problem) (n : FreeNode) (plan : List (List ℕ)) → IsFreeNode problem n → HaveAllowedPaths problem n.sets plan → IsFreeNode problem (record n { plan = plan; is_bounded = false })
showing_is problem n plan is paths = record {
  agents = is.agents;
  costs = is.costs;
  paths = paths;
  groups = is.groups;
  alone = is.alone;
  dear = λ bounded. absurd (true≢false (sym bounded));
  within = is.within;
  below = is.below;
}

-- a node of which other groups are known
pub knowing_is : (problem : Problem) (n : FreeNode) (groups : List GroupBound) → IsFreeNode problem n → AreGroupBounds problem n.sets groups → IsFreeNode problem (record n { groups = groups })
knowing_is problem n groups is bounds = record {
  agents = is.agents;
  costs = is.costs;
  paths = is.paths;
  groups = bounds;
  alone = is.alone;
  dear = is.dear;
  within = is.within;
  below = is.below;
}

-- a node of the same sets whose plan costs no more than its label
abbrev pub IsCheap : Problem → FreeNode → FreeNode → Type 0
IsCheap problem old new = IsFreeNode problem new × (new.sets ≡ old.sets) × (plan_cost new.plan ≤ new.label)

-- a node whose plan costs no more than its label, once it was bounded
pub bounded_is : (problem : Problem) (n : FreeNode) (collisions : ℕ) → IsFreeNode problem n → plan_cost n.plan ≤ n.label → IsFreeNode problem (record n { collisions = collisions; is_bounded = true })
bounded_is problem n collisions is dear = record {
  agents = is.agents;
  costs = is.costs;
  paths = is.paths;
  groups = is.groups;
  alone = is.alone;
  dear = λ bounded. dear;
  within = is.within;
  below = is.below;
}
