-- The steps of a search that may branch on any conflict: best first by label.
use Rattle.std.specs.Prelude.{◌≡◌, ◌⊎◌, ◌↔◌, ℕ, ◌+◌, ◌<◌, ◌≤◌, true, false, List, [], ◌∷◌, ◌++◌, length, replicate, All, Option, Some, None, MatchOption, Contains, IsPermutation, slice_index, slice_index_or, slice_set, sum_by}
use Rattle.std.specs.Option.{option_to_list}
use Rattle.std.specs.declared.cmp.Ordering.{Ordering}
use Rattle.std.specs.Ordering.{nat_cmp, on, then_cmp, flip_args}
use Rattle.std.specs.Cmp.{IsTotalOrder, on_total, back_total, then_total, nat_cmp_total}
use Rattle.mapf_grid.specs.Instance.{Instance}
use Rattle.mapf_plan.specs.declared.conflict.Conflict.{Conflict}
use Rattle.mapf_plan.specs.Plan.{IsValid, plan_cost}
use Rattle.mapf_low.specs.declared.constraint.Constraint.{Constraint}
use Rattle.mapf_low.specs.Walk.{AreDistances}
use Rattle.mapf_tree.specs.declared.tree.side.Side.{Side}
use Rattle.mapf_tree.specs.declared.tree.side.Side.TheVariants.{Left, Right}
use Rattle.mapf_tree.specs.Problem.{Problem}
use Rattle.mapf_tree.specs.Tree.{agent_on, constraint_on, IsAllowedFor}
use Rattle.mapf_optimum.specs.FreeTree.{FreeNode, IsFreeNode, IsCandidate, IsChoice, IsLeastPathOf, CoversAll}

-- the sets of a side: those of the node, where the side's agent has one constraint more
abbrev pub AreSideSets : List (List Constraint) → Conflict → Side → List (List Constraint) → Type 0
AreSideSets sets c side new =
    (more : List Constraint) × (new ≡ slice_set sets (agent_on c side) more)
    × ((x : Constraint) → Contains more x ↔ ((x ≡ constraint_on c side) ⊎ Contains (slice_index_or sets (agent_on c side) []) x))

-- what is found is a least path of the agent under these constraints, at a cost within this bound; or none, if it may take no such path
abbrev pub IsLeastWithin : Problem → ℕ → ℕ → List Constraint → Option (List ℕ) → Type 0
IsLeastWithin problem bound agent constraints found =
    MatchOption found ((path : List ℕ) → ¬ IsAllowedFor (record problem { bound = bound }) agent constraints path) (IsLeastPathOf (record problem { bound = bound }) agent constraints)

-- a node on that side of a conflict; or none, where the side has no candidate
abbrev pub IsSideOf : Problem → FreeNode → Conflict → Side → Option FreeNode → Type 0
IsSideOf problem node c side (Some child) = IsFreeNode problem child × AreSideSets node.sets c side child.sets
IsSideOf problem node c side None = (sets : List (List Constraint)) → AreSideSets node.sets c side sets → (plan : List (List ℕ)) → ¬ IsCandidate problem sets plan

-- a node of the same sets
abbrev pub IsSame : Problem → FreeNode → FreeNode → Type 0
IsSame problem old new = IsFreeNode problem new × (new.sets ≡ old.sets)

-- the same sets, and a label that was found from the groups; or none, where they have no candidate
abbrev pub IsBounded : Problem → FreeNode → Option FreeNode → Type 0
IsBounded problem old (Some new) = IsSame problem old new × (new.is_bounded ≡ true)
IsBounded problem old None = (plan : List (List ℕ)) → ¬ IsCandidate problem old.sets plan

-- a node of which nothing but its sets, its plan, and what least paths cost is known
pub record IsFreshNode (sets : List (List Constraint)) (costs : List ℕ) (plan : List (List ℕ)) (node : FreeNode) : Type 0 where
  pub same_sets : node.sets ≡ sets
  pub same_costs : node.costs ≡ costs
  pub same_plan : node.plan ≡ plan
  pub no_groups : node.groups ≡ []
  pub by_cost : node.label ≡ sum_by (λ c. c) costs
  pub unbounded : node.is_bounded ≡ false

-- the other agents' least paths leave so much of the bound
abbrev pub IsLeftFor : Problem → List ℕ → ℕ → ℕ → Type 0
IsLeftFor problem costs agent left = left + sum_by (λ c. c) costs ≡ problem.bound + slice_index_or costs agent 0

-- a node without constraints; or none, where there is no valid plan within the bound
abbrev pub IsRootOf : Problem → Option FreeNode → Type 0
IsRootOf problem (Some node) = IsFreeNode problem node × (node.sets ≡ replicate (length problem.inst.starts) [])
IsRootOf problem None = (plan : List (List ℕ)) → IsValid problem.rule problem.inst plan → plan_cost plan ≤ problem.bound → ⊥

-- the least label first, and of equal labels the fewest colliding pairs
abbrev pub by_label : FreeNode → FreeNode → Ordering
by_label = flip_args (then_cmp (on (λ n. n.label) nat_cmp) (on (λ n. n.collisions) nat_cmp))

-- it is an order
pub by_label_total : IsTotalOrder by_label
by_label_total = back_total (then_total (on_total (λ n. n.label) nat_cmp_total) (on_total (λ n. n.collisions) nat_cmp_total))

-- a node of the least label is taken out
abbrev pub IsTaken : List FreeNode → Option FreeNode → List FreeNode → Type 0
IsTaken old None new = (old ≡ []) × (new ≡ [])
IsTaken old (Some x) new = IsPermutation old (x ∷ new) × All (λ y. x.label ≤ y.label) old

-- the sides of a node on a conflict of its plan are put in
pub record PutsSides (problem : Problem) (node : FreeNode) (conflict : Conflict) (old new : List FreeNode) : Type 0 where
  pub left : Option FreeNode
  pub right : Option FreeNode
  pub left_side : IsSideOf problem node conflict Left left
  pub right_side : IsSideOf problem node conflict Right right
  pub put : IsPermutation (option_to_list right ++ (option_to_list left ++ old)) new

-- a node of the least label is taken out, and its sides on a conflict of its plan are put in
pub record Expands (problem : Problem) (old new : List FreeNode) : Type 0 where
  pub node : FreeNode
  pub rest : List FreeNode
  pub taken : IsTaken old (Some node) rest
  pub conflict : Conflict
  pub choice : IsChoice problem node.plan conflict
  pub sides : PutsSides problem node conflict rest new

-- a node of the least label whose label wasn't found from its groups is taken out, and waits again once it was
pub record Bounds (problem : Problem) (old new : List FreeNode) : Type 0 where
  pub node : FreeNode
  pub rest : List FreeNode
  pub taken : IsTaken old (Some node) rest
  pub unbounded : node.is_bounded ≡ false
  pub found : Option FreeNode
  pub bounded : IsBounded problem node found
  pub put : IsPermutation (option_to_list found ++ rest) new

-- what holds between two steps of a search among the candidates under some sets: all that wait are nodes, and no candidate is lost
pub record IsUnderWayFrom (problem : Problem) (sets : List (List Constraint)) (waiting : List FreeNode) : Type 0 where
  pub free : All (IsFreeNode problem) waiting
  pub covers : (plan : List (List ℕ)) → IsCandidate problem sets plan → (n : FreeNode) × Contains waiting n × IsCandidate problem n.sets plan

-- what holds between two steps: all that wait are nodes, and no valid plan within the bound is lost
pub record IsUnderWay (problem : Problem) (waiting : List FreeNode) : Type 0 where
  pub free : All (IsFreeNode problem) waiting
  pub covers : CoversAll problem waiting

-- one table for each agent, with the distances of the agent's start
pub record HasStartTables (inst : Instance) (tables : List (List (Option ℕ))) : Type 0 where
  pub each : length tables ≡ length inst.starts
  pub shortest : (i : ℕ) → i < length inst.starts → AreDistances inst.grid (slice_index inst.starts i) (slice_index_or tables i [])
