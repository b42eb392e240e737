-- A search that may branch on any conflict: its nodes, and what their labels say (conflict-based search with other choices than the
-- constraint tree's: Boyarski et al. 2015, Felner et al. 2018).
use Rattle.std.specs.Prelude.{◌≡◌, ℕ, ◌<◌, ◌≤◌, Bool, true, List, [], length, map, slice_index, slice_index_or, sum_by, Contains}
use Rattle.mapf_plan.specs.declared.conflict.Conflict.{Conflict}
use Rattle.mapf_plan.specs.Path.{cost}
use Rattle.mapf_plan.specs.Plan.{IsConflict, conflict_time, IsValid, path_of, plan_cost}
use Rattle.mapf_low.specs.declared.constraint.Constraint.{Constraint}
use Rattle.mapf_tree.specs.Problem.{Problem}
use Rattle.mapf_tree.specs.Tree.{TreeNode, IsAllowedFor}
use Rattle.mapf_tree.specs.Laws.{ObeysNode}
use Rattle.mapf_grid.specs.Instance.{IsDistinct}
use Rattle.mapf_optimum.specs.declared.group_bound.GroupBound.{GroupBound}

-- each agent's set of constraints, what a least path of each costs, a plan that is shown, what is known of groups of agents, and a
-- label; nodes of equal labels are ordered by how many pairs collide, and a node is bounded once its label was found from its groups
pub record FreeNode : Type 0 where
  pub sets : List (List Constraint)
  pub costs : List ℕ
  pub plan : List (List ℕ)
  pub groups : List GroupBound
  pub label : ℕ
  pub collisions : ℕ
  pub is_bounded : Bool

-- these sets as a node of a constraint tree, whose name doesn't matter
abbrev pub unnamed : List (List Constraint) → TreeNode
unnamed sets = record { name = []; constraints = sets }

-- a valid plan within the bound in which each agent's path obeys the agent's set
pub record IsCandidate (problem : Problem) (sets : List (List Constraint)) (plan : List (List ℕ)) : Type 0 where
  pub valid : IsValid problem.rule problem.inst plan
  pub within : plan_cost plan ≤ problem.bound
  pub obeys : ObeysNode problem (unnamed sets) plan

-- no candidate costs less
abbrev pub IsLowerBoundOf : Problem → List (List Constraint) → ℕ → Type 0
IsLowerBoundOf problem sets least = (plan : List (List ℕ)) → IsCandidate problem sets plan → least ≤ plan_cost plan

-- a path that the agent may take under these constraints, such that none that it may take costs less
pub record IsLeastPathOf (problem : Problem) (agent : ℕ) (constraints : List Constraint) (path : List ℕ) : Type 0 where
  pub allowed : IsAllowedFor problem agent constraints path
  pub least : (other : List ℕ) → IsAllowedFor problem agent constraints other → cost path ≤ cost other

-- a least path of each agent under its set, any one
pub record HaveLeastPaths (problem : Problem) (sets : List (List Constraint)) (plan : List (List ℕ)) : Type 0 where
  pub agents : length plan ≡ length problem.inst.starts
  pub each : (i : ℕ) → i < length problem.inst.starts → IsLeastPathOf problem i (slice_index_or sets i []) (path_of plan i)

-- what a least path of the agent costs
abbrev pub IsLeastCostOf : Problem → ℕ → List Constraint → ℕ → Type 0
IsLeastCostOf problem agent constraints least = (path : List ℕ) × IsLeastPathOf problem agent constraints path × (cost path ≡ least)

-- what a least path of each agent costs under its set
pub record AreLeastCosts (problem : Problem) (sets : List (List Constraint)) (costs : List ℕ) : Type 0 where
  pub agents : length costs ≡ length problem.inst.starts
  pub each : (i : ℕ) → i < length problem.inst.starts → IsLeastCostOf problem i (slice_index_or sets i []) (slice_index_or costs i 0)

-- a path of each agent that it may take under its set, any one
pub record HaveAllowedPaths (problem : Problem) (sets : List (List Constraint)) (plan : List (List ℕ)) : Type 0 where
  pub agents : length plan ≡ length problem.inst.starts
  pub each : (i : ℕ) → i < length problem.inst.starts → IsAllowedFor problem i (slice_index_or sets i []) (path_of plan i)

-- some of n agents, each once
pub record IsGroup (n : ℕ) (agents : List ℕ) : Type 0 where
  pub inside : (k : ℕ) → k < length agents → slice_index agents k < n
  pub once : IsDistinct agents

-- their paths in a plan of all
abbrev pub paths_in : List (List ℕ) → List ℕ → List (List ℕ)
paths_in plan agents = map (λ i. path_of plan i) agents

-- some of the problem's agents, whose paths cost together at least so much in each candidate
pub record IsGroupBound (problem : Problem) (sets : List (List Constraint)) (agents : List ℕ) (least : ℕ) : Type 0 where
  pub group : IsGroup (length problem.inst.starts) agents
  pub below : (plan : List (List ℕ)) → IsCandidate problem sets plan → least ≤ plan_cost (paths_in plan agents)

-- so it is of each of these groups
abbrev pub AreGroupBounds : Problem → List (List Constraint) → List GroupBound → Type 0
AreGroupBounds problem sets groups = (g : GroupBound) → Contains groups g → IsGroupBound problem sets g.agents.items g.least

-- what always holds of a node: its agents may take the paths of its plan, and its label is a lower bound within the problem's bound, no
-- less than what least paths cost, and once it was found from the groups, than what the plan costs
pub record IsFreeNode (problem : Problem) (node : FreeNode) : Type 0 where
  pub agents : length node.sets ≡ length problem.inst.starts
  pub costs : AreLeastCosts problem node.sets node.costs
  pub paths : HaveAllowedPaths problem node.sets node.plan
  pub groups : AreGroupBounds problem node.sets node.groups
  pub alone : sum_by (λ c. c) node.costs ≤ node.label
  pub dear : node.is_bounded ≡ true → plan_cost node.plan ≤ node.label
  pub within : node.label ≤ problem.bound
  pub below : IsLowerBoundOf problem node.sets node.label

-- each valid plan within the bound is a candidate under the sets of a waiting node
abbrev pub CoversAll : Problem → List FreeNode → Type 0
CoversAll problem waiting =
    (plan : List (List ℕ)) → IsValid problem.rule problem.inst plan → plan_cost plan ≤ problem.bound →
    (n : FreeNode) × Contains waiting n × IsCandidate problem n.sets plan

-- a conflict on which a node with this plan may branch: any one up to the bound
abbrev pub IsChoice : Problem → List (List ℕ) → Conflict → Type 0
IsChoice problem plan c = IsConflict problem.rule plan c × (conflict_time c ≤ problem.bound)
