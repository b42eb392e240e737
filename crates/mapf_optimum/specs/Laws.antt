-- What holds of every search that may branch on any conflict: nothing is lost, and what is found is an optimum.
use Rattle.std.specs.Prelude.{◌≡◌, ◌⊎◌, ℕ, ◌<◌, ◌≤◌, true, List, [], All, Some}
use Rattle.mapf_plan.specs.declared.conflict.Conflict.{Conflict}
use Rattle.mapf_plan.specs.Plan.{HasNoConflict, IsOptimum, IsValid, plan_cost}
use Rattle.mapf_low.specs.declared.constraint.Constraint.{Constraint}
use Rattle.mapf_tree.specs.declared.tree.side.Side.TheVariants.{Left, Right}
use Rattle.mapf_tree.specs.Problem.{Problem}
use Rattle.mapf_tree.specs.LowerBound.{IsBelowAll}
use Rattle.mapf_optimum.specs.FreeTree.{FreeNode, IsFreeNode, IsCandidate, IsChoice}
use Rattle.mapf_optimum.specs.FreeSearch.{AreSideSets, Expands, Bounds, IsTaken, IsUnderWay}

-- a candidate at a node is one on one of the sides of any conflict of its plan
abbrev pub HasASide : Type 0
HasASide =
    (problem : Problem) (node : FreeNode) (c : Conflict) (left right : List (List Constraint)) (plan : List (List ℕ)) →
    IsFreeNode problem node → IsChoice problem node.plan c → AreSideSets node.sets c Left left → AreSideSets node.sets c Right right →
    IsCandidate problem node.sets plan → IsCandidate problem left plan ⊎ IsCandidate problem right plan

-- an expansion loses no candidate
abbrev pub ExpansionCovers : Type 0
ExpansionCovers = (problem : Problem) (old new : List FreeNode) → IsUnderWay problem old → Expands problem old new → IsUnderWay problem new

-- nor does a label that is found
abbrev pub BoundingCovers : Type 0
BoundingCovers = (problem : Problem) (old new : List FreeNode) → IsUnderWay problem old → Bounds problem old new → IsUnderWay problem new

-- a plan without conflict of a bounded node of the least label is an optimum
abbrev pub LeastIsOptimum : Type 0
LeastIsOptimum =
    (problem : Problem) (waiting rest : List FreeNode) (x : FreeNode) → IsUnderWay problem waiting → IsTaken waiting (Some x) rest → x.is_bounded ≡ true →
    HasNoConflict problem.rule x.plan → IsOptimum problem.rule problem.inst problem.bound x.plan

-- no valid plan costs less than the least label
abbrev pub LeastLabelIsBelow : Type 0
LeastLabelIsBelow =
    (problem : Problem) (waiting rest : List FreeNode) (x : FreeNode) → IsUnderWay problem waiting → IsTaken waiting (Some x) rest →
    IsBelowAll problem x.label

-- where nothing waits, there is no valid plan within the bound
abbrev pub NothingWaits : Type 0
NothingWaits = (problem : Problem) → IsUnderWay problem [] → (plan : List (List ℕ)) → IsValid problem.rule problem.inst plan → plan_cost plan ≤ problem.bound → ⊥

-- some number falls with each step, so a search ends
abbrev pub SearchEnds : Type 0
SearchEnds =
    (problem : Problem) → (work : List FreeNode → ℕ) × ((old new : List FreeNode) → All (IsFreeNode problem) old → Expands problem old new ⊎ Bounds problem old new → work new < work old)
