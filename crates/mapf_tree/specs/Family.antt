-- What the root and a side of a node give: that node of the tree, or nothing exactly where it isn't in the tree.
use Rattle.std.specs.Prelude.{◌≡◌, ℕ, ◌+◌, ◌<◌, List, [], length, Option, Some, None, IsSome, MatchOption}
use Rattle.mapf_plan.specs.declared.conflict.Conflict.{Conflict}
use Rattle.mapf_plan.specs.Path.{cost}
use Rattle.mapf_plan.specs.Plan.{path_of, plan_cost}
use Rattle.mapf_low.specs.declared.constraint.Constraint.{Constraint}
use Rattle.mapf_tree.specs.declared.tree.side.Side.{Side}
use Rattle.mapf_tree.specs.Problem.{Problem}
use Rattle.mapf_tree.specs.Tree.{PlannedNode, IsAllowedFor, IsOwnPathOf, HasPlan, root_of, side_of}
use Rattle.mapf_tree.specs.Nodes.{Node, StandsFor}

abbrev pub IsRoot : Problem → Option Node → Type 0
IsRoot problem None = (plan : List (List ℕ)) → ¬ HasPlan problem (root_of problem) plan
IsRoot problem (Some node) = (plan : List (List ℕ)) × StandsFor problem node (root_of problem, plan)

abbrev pub IsSide : Problem → PlannedNode → Conflict → Side → Option Node → Type 0
IsSide problem m c side None = (plan : List (List ℕ)) → ¬ HasPlan problem (side_of m.0 c side) plan
IsSide problem m c side (Some node) = (plan : List (List ℕ)) × StandsFor problem node (side_of m.0 c side, plan)

-- the node is one of the tree, and its plan has a conflict
pub record IsBranching (problem : Problem) (node : Node) : Type 0 where
  pub of : PlannedNode
  pub stands : StandsFor problem node of
  pub conflict : IsSome node.conflict

-- the child on that side of the node's conflict, or none exactly where that side isn't in the tree
abbrev pub IsChildOf : Problem → Node → Side → Option Node → Type 0
IsChildOf problem node side found =
    (m : PlannedNode) (c : Conflict) → StandsFor problem node m → node.conflict ≡ Some c → IsSide problem m c side found

-- what is found is agent i's own path under these constraints, or none if there is no path that it may take
abbrev pub IsOwn : Problem → ℕ → List Constraint → Option (List ℕ) → Type 0
IsOwn problem i cs found = MatchOption found ((path : List ℕ) → ¬ IsAllowedFor problem i cs path) (IsOwnPathOf problem i cs)

-- the same, where the path is to cost at most the bound
abbrev pub IsOwnWithin : Problem → ℕ → ℕ → List Constraint → Option (List ℕ) → Type 0
IsOwnWithin problem bound = IsOwn (record problem { bound = bound })

-- the bound for agent i's path is what the other agents' paths in the plan leave of the bound
abbrev pub Leaves : Problem → List (List ℕ) → ℕ → ℕ → Type 0
Leaves problem plan i bound = bound + plan_cost plan ≡ problem.bound + cost (path_of plan i)

-- path i is agent i's own path without constraints
pub record AreRootPaths (problem : Problem) (paths : List (List ℕ)) : Type 0 where
  pub each : length paths ≡ length problem.inst.starts
  pub own : (i : ℕ) → i < length problem.inst.starts → IsOwnPathOf problem i [] (path_of paths i)
