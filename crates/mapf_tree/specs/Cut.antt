-- Where a search gives up that may take only so many nodes (this project's), by places in the tree's order of keys.
use Rattle.std.specs.Prelude.{◌≡◌, ℕ, ◌⊎◌, ◌↔◌, List, length, Contains}
use Rattle.mapf_grid.specs.Least.{Precedes}
use Rattle.mapf_tree.specs.Problem.{Problem}
use Rattle.mapf_tree.specs.Tree.{PlannedNode, IsMember, IsSolution, IsFirstSolution, EachOnce, key}

-- a node of the tree that exactly n nodes of the tree come before, by key
pub record IsAtPlace (problem : Problem) (n : ℕ) (m : PlannedNode) : Type 0 where
  pub member : IsMember problem m
  pub before : List PlannedNode
  pub once : EachOnce before
  pub count : length before ≡ n
  pub each : (x : PlannedNode) → Contains before x ↔ (IsMember problem x × Precedes (key x) (key m))

-- a node of the tree that comes before each solution
abbrev pub IsInCut : Problem → PlannedNode → Type 0
IsInCut problem m = IsMember problem m × ((s : PlannedNode) → IsSolution problem s → Precedes (key m) (key s))

-- the node at place n, from 0, where it is in the cut or is the first solution
abbrev pub IsCutAt : Problem → ℕ → PlannedNode → Type 0
IsCutAt problem n m = IsAtPlace problem n m × (IsInCut problem m ⊎ IsFirstSolution problem m)
