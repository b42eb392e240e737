-- The subtree of a node, what is known of all solutions in it, and nodes whose subtrees hold all solutions up to a cost.
use Rattle.std.specs.Prelude.{◌≡◌, ℕ, ◌≤◌, length}
use Rattle.mapf_plan.specs.Plan.{plan_cost}
use Rattle.mapf_tree.specs.Problem.{Problem}
use Rattle.mapf_tree.specs.Tree.{PlannedNode, IsMember, IsSolution}
use Rattle.mapf_tree.specs.Search.{IsChild}
use Rattle.mapf_bounds.specs.declared.lower_bound.LowerBound.{LowerBound}

-- the nodes of the tree at or below a node: that node, and the children of such nodes
pub data IsBelow (problem : Problem) (top : PlannedNode) : PlannedNode → Type 0 where
  itself : IsBelow problem top top
  child : {parent m : PlannedNode} → IsBelow problem top parent → IsMember problem m → IsChild problem parent m → IsBelow problem top m

-- each solution at or below the node costs at least so much
abbrev pub IsCostBound : Problem → PlannedNode → ℕ → Type 0
IsCostBound problem m least = (s : PlannedNode) → IsSolution problem s → IsBelow problem m s → least ≤ plan_cost s.1

-- each solution at or below the node that costs so much is at least so deep
abbrev pub IsDepthBound : Problem → PlannedNode → ℕ → ℕ → Type 0
IsDepthBound problem m cost least = (s : PlannedNode) → IsSolution problem s → IsBelow problem m s → plan_cost s.1 ≡ cost → least ≤ length s.0.name

-- no solution at or below the node comes before the bound, by cost and then by depth
pub record IsBounded (problem : Problem) (m : PlannedNode) (b : LowerBound) : Type 0 where
  pub cost : IsCostBound problem m b.cost
  pub depth : IsDepthBound problem m b.cost b.depth

-- the cost and the depth of a node itself
abbrev pub own_bound : PlannedNode → LowerBound
own_bound m = record { cost = plan_cost m.1; depth = length m.0.name }

-- each solution of the tree that costs at most so much is at or below one of these nodes
abbrev pub CoversUpTo : Problem → ℕ → (PlannedNode → Type 0) → Type 0
CoversUpTo problem most Waits =
    (s : PlannedNode) → IsSolution problem s → plan_cost s.1 ≤ most → (m : PlannedNode) × Waits m × IsBelow problem m s

-- where the tree has a solution, it has one that costs at most so much
abbrev pub IsEnough : Problem → ℕ → Type 0
IsEnough problem most = (s : PlannedNode) → IsSolution problem s → (t : PlannedNode) × IsSolution problem t × (plan_cost t.1 ≤ most)
