-- What holds of bounds on solutions, and of a search that takes nodes by them.
use Rattle.std.specs.Prelude.{◌≡◌, ℕ, ◌+◌, ◌≤◌, ◌⊎◌, List, Option, None, length, Contains}
use Rattle.mapf_grid.specs.Least.{IsLeast}
use Rattle.mapf_plan.specs.Plan.{plan_cost, IsValid, HasNoConflict}
use Rattle.mapf_tree.specs.declared.tree.key.Key.{Key}
use Rattle.mapf_tree.specs.Problem.{Problem}
use Rattle.mapf_tree.specs.Tree.{PlannedNode, IsMember, IsSolution, IsFirstSolution, IsAnswer, key_rank}
use Rattle.mapf_tree.specs.Laws.{ObeysNode}
use Rattle.mapf_tree.specs.Search.{IsChild, IsWaiting, NoneSolves}
use Rattle.mapf_bounds.specs.declared.lower_bound.LowerBound.{LowerBound}
use Rattle.mapf_bounds.specs.Below.{IsBelow, IsCostBound, IsBounded, own_bound, CoversUpTo, IsEnough}
use Rattle.mapf_bounds.specs.Pairs.{HaveCollisions}
use Rattle.mapf_bounds.specs.Waiting.{IsBoundKey}

-- a solution at or below a node obeys the node's constraints
abbrev pub SolutionsObey : Type 0
SolutionsObey =
    (problem : Problem) (m s : PlannedNode) → IsMember problem m → IsSolution problem s → IsBelow problem m s → ObeysNode problem m.0 s.1

-- so what each valid plan costs at least that obeys the node is a bound on the cost of all solutions at or below it
abbrev pub PlansBoundCost : Type 0
PlansBoundCost =
    (problem : Problem) (m : PlannedNode) (least : ℕ) → IsMember problem m →
    ((plan : List (List ℕ)) → IsValid problem.rule problem.inst plan → plan_cost plan ≤ problem.bound → ObeysNode problem m.0 plan → least ≤ plan_cost plan) →
    IsCostBound problem m least

-- a node's own cost and depth are bounds
abbrev pub OwnAreBounds : Type 0
OwnAreBounds = (problem : Problem) (m : PlannedNode) → IsMember problem m → IsBounded problem m (own_bound m)

-- bounds of a node are bounds of each node below it
abbrev pub BoundsPassDown : Type 0
BoundsPassDown = (problem : Problem) (m p : PlannedNode) (b : LowerBound) → IsBounded problem m b → IsBelow problem m p → IsBounded problem p b

-- the nodes that wait in a search by keys that has found no solution cover all solutions
abbrev pub WaitingCover : Type 0
WaitingCover = (problem : Problem) (most : ℕ) (last : Option (List ℕ)) → NoneSolves problem last → CoversUpTo problem most (IsWaiting problem last)

-- they still do once a node with a conflict leaves, and those of its children wait that have a solution at or below them
abbrev pub StillCovers : Type 0
StillCovers =
    (problem : Problem) (most : ℕ) (old new : List PlannedNode) (x : PlannedNode) →
    CoversUpTo problem most (Contains old) → ¬ HasNoConflict problem.rule x.1 → ((m : PlannedNode) → Contains old m → (m ≡ x) ⊎ Contains new m) →
    ((c s : PlannedNode) → IsMember problem c → IsChild problem x c → IsSolution problem s → plan_cost s.1 ≤ most → IsBelow problem c s → Contains new c) →
    CoversUpTo problem most (Contains new)

-- what a valid plan within the bound costs is enough: there is a solution that costs no more
abbrev pub ValidPlanIsEnough : Type 0
ValidPlanIsEnough =
    (problem : Problem) (plan : List (List ℕ)) → IsValid problem.rule problem.inst plan → plan_cost plan ≤ problem.bound → IsEnough problem (plan_cost plan)

-- disjoint pairs that collide in a node's plan take a turn each
abbrev pub CollisionsTakeTurns : Type 0
CollisionsTakeTurns =
    (problem : Problem) (m s : PlannedNode) (count : ℕ) → IsMember problem m → HaveCollisions problem.rule m.1 count → IsSolution problem s → IsBelow problem m s →
    length m.0.name + count ≤ length s.0.name

-- where those that wait cover all solutions up to a cost that is enough, the least of them by bounds is the first solution by cost, depth
-- and name if its plan has no conflict; and where none waits there is no solution
abbrev pub LeastIsFirst : Type 0
LeastIsFirst =
    (problem : Problem) (most : ℕ) (waiting : List (Key × PlannedNode)) →
    ((w : Key × PlannedNode) → Contains waiting w → IsMember problem w.1 × IsBoundKey problem w.0 w.1) →
    CoversUpTo problem most (λ m. (k : Key) × Contains waiting (k, m)) → IsEnough problem most →
    ((x : Key × PlannedNode) → IsLeast (λ w. key_rank w.0) (Contains waiting) x → HasNoConflict problem.rule x.1.1 → IsFirstSolution problem x.1)
    × (((w : Key × PlannedNode) → ¬ Contains waiting w) → IsAnswer problem None)
