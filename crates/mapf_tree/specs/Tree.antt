-- The constraint tree, its solutions and the answer (Sharon et al. 2015).
use Rattle.std.specs.Prelude.{◌≡◌, ℕ, ◌<◌, ◌≤◌, ◌-◌, ◌==◌, if◌then◌else◌, min, max, List, [], ◌∷◌, ◌++◌, length, map, replicate, slice_index, slice_index_or, slice_set, Option, Some, None, Contains}
use Rattle.mapf_grid.specs.Least.{IsLeast}
use Rattle.mapf_plan.specs.declared.conflict.Conflict.{Conflict}
use Rattle.mapf_plan.specs.declared.conflict.Conflict.TheVariants as conflict
use Rattle.mapf_plan.specs.Plan.{path_of, plan_cost, IsFirstConflict, HasNoConflict}
use Rattle.mapf_low.specs.declared.constraint.Constraint.{Constraint}
use Rattle.mapf_low.specs.declared.constraint.Constraint.TheVariants as constraint
use Rattle.mapf_low.specs.Constraints.{IsAllowed}
use Rattle.mapf_low.specs.OwnPath.{IsOwnPath}
use Rattle.mapf_tree.specs.declared.tree.side.Side.{Side}
use Rattle.mapf_tree.specs.declared.tree.side.Side.TheVariants.{Left, Right}
use Rattle.mapf_tree.specs.Names.{turn}
use Rattle.mapf_tree.specs.declared.tree.key.Key.{Key}
use Rattle.mapf_tree.specs.Problem.{Problem}

-- a node of the tree: a name, and the constraints of each agent
pub record TreeNode : Type 0 where
  pub name : List Side
  pub constraints : List (List Constraint)

abbrev pub constraints_of : TreeNode → ℕ → List Constraint
constraints_of node i = slice_index_or node.constraints i []

-- a path that agent i may take under these constraints
abbrev pub IsAllowedFor : Problem → ℕ → List Constraint → List ℕ → Type 0
IsAllowedFor problem i = IsAllowed problem.inst.grid (slice_index problem.inst.starts i) (slice_index problem.inst.goals i) problem.bound

-- agent i's own path under these constraints
abbrev pub IsOwnPathOf : Problem → ℕ → List Constraint → List ℕ → Type 0
IsOwnPathOf problem i = IsOwnPath problem.inst.grid (slice_index problem.inst.starts i) (slice_index problem.inst.goals i) problem.bound

-- the plan of a node: each agent's own path, at a sum of costs within the bound
pub record HasPlan (problem : Problem) (node : TreeNode) (plan : List (List ℕ)) : Type 0 where
  pub agents : length plan ≡ length problem.inst.starts
  pub own : (i : ℕ) → i < length problem.inst.starts → IsOwnPathOf problem i (constraints_of node i) (path_of plan i)
  pub within : plan_cost plan ≤ problem.bound

abbrev pub agent_on : Conflict → Side → ℕ
agent_on (conflict.Vertex t i j v) Left = i
agent_on (conflict.Vertex t i j v) Right = j
agent_on (conflict.Swapping t i j u v) Left = i
agent_on (conflict.Swapping t i j u v) Right = j
agent_on (conflict.Following t i j v) Left = min i j
agent_on (conflict.Following t i j v) Right = max i j

-- the agent's part in the conflict: a follower is on the cell at that time, and the leader was one time step before
abbrev pub constraint_on : Conflict → Side → Constraint
constraint_on (conflict.Vertex t i j v) side = constraint.Vertex v t
constraint_on (conflict.Swapping t i j u v) Left = constraint.Edge u v t
constraint_on (conflict.Swapping t i j u v) Right = constraint.Edge v u t
constraint_on (conflict.Following t i j v) side =
    constraint.Vertex v (if agent_on (conflict.Following t i j v) side == i then t else t - 1)

-- one turn more in the name, and one constraint more for the agent on that side
abbrev pub side_of : TreeNode → Conflict → Side → TreeNode
side_of node c side = record {
  name = node.name ++ side ∷ [];
  constraints = slice_set node.constraints (agent_on c side) (constraint_on c side ∷ constraints_of node (agent_on c side));
}

-- no turn, and no constraint for any agent
abbrev pub root_of : Problem → TreeNode
root_of problem = record { name = []; constraints = replicate (length problem.inst.starts) [] }

-- the least set that holds the root, if it has a plan, and with a node whose plan has a first conflict each side that has one
pub data InTree (problem : Problem) : TreeNode → Type 0 where
  root : {plan : List (List ℕ)} → HasPlan problem (root_of problem) plan → InTree problem (root_of problem)
  side : {node : TreeNode} {plan plan' : List (List ℕ)} {c : Conflict} (s : Side) →
      InTree problem node → HasPlan problem node plan → IsFirstConflict problem.rule plan c →
      HasPlan problem (side_of node c s) plan' → InTree problem (side_of node c s)

-- a node with its plan
abbrev pub PlannedNode : Type 0
PlannedNode = TreeNode × List (List ℕ)

-- each once
abbrev pub EachOnce : List PlannedNode → Type 0
EachOnce [] = Unit {0}
EachOnce (m ∷ ms) = (¬ Contains ms m) × EachOnce ms

-- a node of the tree, with its plan
pub record IsMember (problem : Problem) (m : PlannedNode) : Type 0 where
  pub inside : InTree problem m.0
  pub plan : HasPlan problem m.0 m.1

-- a node of the tree with its plan, which has no conflict
pub record IsSolution (problem : Problem) (m : PlannedNode) : Type 0 where
  pub planned : IsMember problem m
  pub no_conflict : HasNoConflict problem.rule m.1

-- nodes are taken by cost, then by depth, then by name with left before right: best first, and this project's order of
-- equal costs
abbrev pub rank : ℕ → ℕ → List Side → List ℕ
rank cost depth name = cost ∷ depth ∷ map turn name

abbrev pub key : PlannedNode → List ℕ
key m = rank (plan_cost m.1) (length m.0.name) m.0.name

abbrev pub key_rank : Key → List ℕ
key_rank k = rank k.cost k.depth k.name

abbrev pub IsFirstSolution : Problem → PlannedNode → Type 0
IsFirstSolution problem = IsLeast key (IsSolution problem)

-- the plan of the first solution, or none where the tree has no solution
abbrev pub IsAnswer : Problem → Option (List (List ℕ)) → Type 0
IsAnswer problem (Some plan) = (node : TreeNode) × IsFirstSolution problem (node, plan)
IsAnswer problem None = (m : PlannedNode) → ¬ IsSolution problem m
