-- Bounds of nodes as a search has them.
use Rattle.std.specs.Prelude.{◌≡◌, ◌⊎◌, ◌<◌, ℕ, length, Option, Some, None}
use Rattle.mapf_plan.specs.Plan.{plan_cost}
use Rattle.mapf_tree.specs.Problem.{Problem}
use Rattle.mapf_tree.specs.LowerBound.{IsBelowAll}
use Rattle.mapf_tree.specs.Tree.{PlannedNode, IsAnswer}
use Rattle.mapf_tree.specs.Nodes.{Node, StandsFor}
use Rattle.mapf_bounds.specs.declared.lower_bound.LowerBound.{LowerBound}
use Rattle.mapf_bounds.specs.declared.solving.CostRange.{CostRange}
use Rattle.mapf_bounds.specs.Below.{IsBounded, IsEnough}

-- it is a bound of the node of the tree that the node stands for
abbrev pub IsBoundOf : Problem → Node → LowerBound → Type 0
IsBoundOf problem node b = (m : PlannedNode) → StandsFor problem node m → IsBounded problem m b

-- the node is one of the tree
abbrev pub IsOfTree : Problem → Node → Type 0
IsOfTree problem node = (m : PlannedNode) × StandsFor problem node m

-- a node's own cost and depth
abbrev pub node_bound : Node → LowerBound
node_bound node = record { cost = plan_cost node.plan; depth = length node.name }

-- by cost, then by depth
abbrev pub IsAbove : LowerBound → LowerBound → Type 0
IsAbove a b = (b.cost < a.cost) ⊎ ((b.cost ≡ a.cost) × (b.depth < a.depth))

-- the other one where that is above it, else itself
abbrev pub IsRaised : LowerBound → LowerBound → LowerBound → Type 0
IsRaised own other result = ((result ≡ own) × (¬ IsAbove other own)) ⊎ ((result ≡ other) × IsAbove other own)

-- a problem, and what solutions cost at most that are looked for
pub record Bounding : Type 0 where
  pub problem : Problem
  pub most : ℕ

-- what is known of the cost of the first solution: no valid plan costs less than the one number, and the other is enough; or that
-- there is no valid plan within the bound
abbrev pub IsRange : Problem → Option CostRange → Type 0
IsRange problem None = IsAnswer problem None
IsRange problem (Some range) = IsBelowAll problem range.least × IsEnough problem range.most
