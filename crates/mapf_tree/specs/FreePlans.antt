-- Plans of own paths under any constraints, where any conflict may be branched on (Sharon et al. 2015: each valid plan that obeys a
-- node obeys one of the two sides of a conflict of the node's plan, whichever conflict that is).
use Rattle.std.specs.Prelude.{◌≡◌, ℕ, ◌+◌, ◌≤◌, List, [], ◌∷◌, ◌++◌, length, slice_get, slice_index, Option, Some, None, Contains}
use Rattle.mapf_plan.specs.declared.conflict.Conflict.{Conflict}
use Rattle.mapf_plan.specs.KnownPaths.{plan_of}
use Rattle.mapf_plan.specs.Path.{cost}
use Rattle.mapf_plan.specs.Plan.{IsValid, plan_cost}
use Rattle.mapf_low.specs.declared.constraint.Constraint.{Constraint}
use Rattle.mapf_tree.specs.declared.tree.side.Side.{Side}
use Rattle.mapf_tree.specs.declared.own_paths.path_cache.free_plans.FreePlan.{FreePlan}
use Rattle.mapf_tree.specs.declared.own_paths.path_cache.free_sides.FreeSide.{FreeSide}
use Rattle.mapf_tree.specs.declared.own_paths.obeyed.Obeyed.{Obeyed}
use Rattle.mapf_tree.specs.declared.own_paths.obeyed.Obeyed.TheVariants.{ByNone, ByPlan, Unknown}
use Rattle.mapf_tree.specs.Laws.{ObeysNode}
use Rattle.mapf_tree.specs.Nodes.{Node, StandsFor}
use Rattle.mapf_tree.specs.PathCache.{AreSetsOf, HasOneMore, HasSet, IsPlanOf, PathCache}
use Rattle.mapf_tree.specs.Problem.{Problem}
use Rattle.mapf_tree.specs.Tree.{HasPlan, IsOwnPathOf, PlannedNode, TreeNode, agent_on, constraint_on, side_of}

-- no valid plan that costs at most so much obeys these constraints
abbrev pub NoneObeys : Problem → TreeNode → ℕ → Type 0
NoneObeys problem node most = (plan : List (List ℕ)) → IsValid problem.rule problem.inst plan → ObeysNode problem node plan → ¬ (plan_cost plan ≤ most)

-- what was found of the node of the tree that a node stands for, at a cost
abbrev pub IsObeyed : Problem → Node → ℕ → Obeyed → Type 0
IsObeyed problem node most ByNone = (m : PlannedNode) → StandsFor problem node m → NoneObeys problem m.0 most
IsObeyed problem node most (ByPlan paths) = Unit {0}
IsObeyed problem node most Unknown = Unit {0}

-- the plan of a free plan's paths
abbrev pub paths_of : PathCache → FreePlan → List (List ℕ)
paths_of cache free = plan_of cache.paths free.plan.numbers.items

-- each agent has its own path under these constraints, and the sets and the paths have these numbers
pub record IsFreeUnder (cache : PathCache) (node : TreeNode) (free : FreePlan) : Type 0 where
  pub agents : length node.constraints ≡ length cache.problem.inst.starts
  pub sets : AreSetsOf cache.sets free.sets.items node.constraints
  pub plan : IsPlanOf cache free.plan
  pub own : HasPlan cache.problem node (paths_of cache free)
  pub cost : free.cost ≡ plan_cost (paths_of cache free)

-- the same, under some constraints
abbrev pub IsFreePlan : PathCache → FreePlan → Type 0
IsFreePlan cache free = (node : TreeNode) × IsFreeUnder cache node free

-- a cache has what another one had
pub record Grows (old new : PathCache) : Type 0 where
  pub problem : new.problem ≡ old.problem
  pub sets : (number agent : ℕ) (cs : List Constraint) → HasSet old.sets number agent cs → HasSet new.sets number agent cs
  pub paths : (number : ℕ) (path : List ℕ) → slice_get old.paths number ≡ Some path → slice_get new.paths number ≡ Some path

-- on a side of a conflict the agent has this set and its own path under it, with which all paths cost so much
pub record HasSide (cache : PathCache) (free : FreePlan) (c : Conflict) (side : Side) (found : FreeSide) : Type 0 where
  pub agent : found.agent ≡ agent_on c side
  pub before : List Constraint
  pub is_before : HasSet cache.sets (slice_index free.sets.items found.agent) found.agent before
  pub after : List Constraint
  pub is_after : HasSet cache.sets found.set found.agent after
  pub more : HasOneMore (constraint_on c side) before after
  pub path : List ℕ
  pub is_path : slice_get cache.paths found.path ≡ Some path
  pub own : IsOwnPathOf cache.problem found.agent after path
  pub was : List ℕ
  pub is_was : slice_get cache.paths (slice_index free.plan.numbers.items found.agent) ≡ Some was
  pub cost : found.cost + cost was ≡ free.cost + cost path
  pub within : found.cost ≤ cache.problem.bound

-- what a side gives its agent up to a cost: none where no valid plan that costs so little obeys it
abbrev pub IsFreeSide : PathCache → FreePlan → Conflict → Side → ℕ → Option FreeSide → Type 0
IsFreeSide cache free c side most None = (node : TreeNode) → IsFreeUnder cache node free → NoneObeys cache.problem (side_of node c side) most
IsFreeSide cache free c side most (Some found) = HasSide cache free c side found × (found.cost ≤ most)

-- the plan on a side, up to a cost: none where no valid plan that costs so little obeys it
abbrev pub IsSidePlan : PathCache → FreePlan → Conflict → Side → ℕ → Option FreePlan → Type 0
IsSidePlan cache free c side most None = (node : TreeNode) → IsFreeUnder cache node free → NoneObeys cache.problem (side_of node c side) most
IsSidePlan cache free c side most (Some next) = (node : TreeNode) → IsFreeUnder cache node free → IsFreeUnder cache (side_of node c side) next

-- a plan obeys the constraints of one of these
abbrev pub ObeysOneOf : PathCache → List FreePlan → List (List ℕ) → Type 0
ObeysOneOf cache waiting plan = (free : FreePlan) × (node : TreeNode) × Contains waiting free × IsFreeUnder cache node free × ObeysNode cache.problem node plan

-- in the place of a free plan others wait: each valid plan that obeys it and costs at most so much obeys one of these
pub record Branches (most : ℕ) (old : PathCache) (free : FreePlan) (new : PathCache) (waiting next : List FreePlan) : Type 0 where
  pub added : List FreePlan
  pub are : next ≡ waiting ++ added
  pub free_plans : (f : FreePlan) → Contains added f → IsFreePlan new f
  pub leads : (node : TreeNode) → IsFreeUnder old node free → (plan : List (List ℕ)) → IsValid old.problem.rule old.problem.inst plan → ObeysNode old.problem node plan →
      plan_cost plan ≤ most → ObeysOneOf new added plan

-- what a search found of those that wait
abbrev pub AreObeyed : PathCache → List FreePlan → ℕ → Obeyed → Type 0
AreObeyed cache waiting most ByNone = (plan : List (List ℕ)) → IsValid cache.problem.rule cache.problem.inst plan → plan_cost plan ≤ most → ¬ ObeysOneOf cache waiting plan
AreObeyed cache waiting most (ByPlan paths) = Unit {0}
AreObeyed cache waiting most Unknown = Unit {0}

-- what there is
abbrev pub one_or_none : Option FreePlan → List FreePlan
one_or_none None = []
one_or_none (Some free) = free ∷ []
