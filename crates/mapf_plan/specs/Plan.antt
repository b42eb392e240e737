-- Plans and their conflicts (Stern et al. 2019: vertex and swapping conflicts are forbidden, and by the second rule following
-- conflicts too; sum of costs).
use Rattle.std.specs.Prelude.{◌≡◌, ◌≢◌, ℕ, ◌-◌, ◌<◌, ◌≤◌, List, [], ◌∷◌, length, min, max, slice_index, slice_index_or, sum_by}
use Rattle.mapf_grid.specs.Instance.{Instance}
use Rattle.mapf_grid.specs.Least.{IsLeast}
use Rattle.mapf_plan.specs.Path.{cost, at, IsPath}
use Rattle.mapf_plan.specs.declared.conflict.Conflict.{Conflict}
use Rattle.mapf_plan.specs.declared.conflict.Conflict.TheVariants.{Vertex, Swapping, Following}
use Rattle.mapf_plan.specs.declared.rule.Rule.{Rule}
use Rattle.mapf_plan.specs.declared.rule.Rule.TheVariants.{NoFollowing}

abbrev pub path_of : List (List ℕ) → ℕ → List ℕ
path_of plan i = slice_index_or plan i []

-- where agent i is at a time
abbrev pub place : List (List ℕ) → ℕ → ℕ → ℕ
place plan i t = at (path_of plan i) t

abbrev pub IsConflict : Rule → List (List ℕ) → Conflict → Type 0
IsConflict rule plan (Vertex t i j v) =
    (i < j) × (j < length plan) × (place plan i t ≡ v) × (place plan j t ≡ v)
IsConflict rule plan (Swapping t i j u v) =
    (i < j) × (j < length plan) × (0 < t) × (u ≢ v)
    × (place plan i (t - 1) ≡ u) × (place plan i t ≡ v)
    × (place plan j (t - 1) ≡ v) × (place plan j t ≡ u)
IsConflict rule plan (Following t i j v) =
    (rule ≡ NoFollowing) × (i ≢ j) × (i < length plan) × (j < length plan) × (0 < t)
    × (place plan i t ≡ v) × (place plan j (t - 1) ≡ v)

-- by time, vertex before swapping before following, smaller agent, larger agent, the smaller agent as the follower first
abbrev pub conflict_rank : Conflict → List ℕ
conflict_rank (Vertex t i j v) = t ∷ 0 ∷ i ∷ j ∷ 0 ∷ []
conflict_rank (Swapping t i j u v) = t ∷ 1 ∷ i ∷ j ∷ 0 ∷ []
conflict_rank (Following t i j v) = t ∷ 2 ∷ min i j ∷ max i j ∷ i ∷ []

-- when a conflict is; a swapping or a following conflict is where the agents have moved
abbrev pub conflict_time : Conflict → ℕ
conflict_time (Vertex t i j v) = t
conflict_time (Swapping t i j u v) = t
conflict_time (Following t i j v) = t

-- the agent with the smaller number, and the one with the larger
abbrev pub first_agent : Conflict → ℕ
first_agent (Vertex t i j v) = i
first_agent (Swapping t i j u v) = i
first_agent (Following t i j v) = min i j

abbrev pub second_agent : Conflict → ℕ
second_agent (Vertex t i j v) = j
second_agent (Swapping t i j u v) = j
second_agent (Following t i j v) = max i j

-- the conflict that a node of the search branches on
abbrev pub IsFirstConflict : Rule → List (List ℕ) → Conflict → Type 0
IsFirstConflict rule plan c = IsLeast conflict_rank (IsConflict rule plan) c

abbrev pub HasNoConflict : Rule → List (List ℕ) → Type 0
HasNoConflict rule plan = (c : Conflict) → ¬ IsConflict rule plan c

-- the sum of costs
abbrev pub plan_cost : List (List ℕ) → ℕ
plan_cost plan = sum_by cost plan

-- one path for each agent, and no conflict at any time by the rule
pub record IsValid (rule : Rule) (inst : Instance) (plan : List (List ℕ)) : Type 0 where
  pub agents : length plan ≡ length inst.starts
  pub paths : (i : ℕ) → i < length inst.starts →
      IsPath inst.grid (slice_index inst.starts i) (slice_index inst.goals i) (path_of plan i)
  pub no_conflict : HasNoConflict rule plan

-- a valid plan within the bound that costs least of all valid plans
pub record IsOptimum (rule : Rule) (inst : Instance) (bound : ℕ) (plan : List (List ℕ)) : Type 0 where
  pub valid : IsValid rule inst plan
  pub within : plan_cost plan ≤ bound
  pub least : (other : List (List ℕ)) → IsValid rule inst other → plan_cost plan ≤ plan_cost other
