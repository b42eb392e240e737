-- What a checker says of an answer to a MAPF instance (Stern et al. 2019: paths of waits and moves, stay at target,
-- vertex and swapping conflicts, and by the second rule following conflicts; sum of costs).
use Rattle.std.specs.Prelude.{◌≡◌, ◌≢◌, ℕ, ◌-◌, ◌<◌, ◌≤◌, List, [], ◌∷◌, length, slice_get, slice_index, Some}
use Rattle.mapf_grid.specs.Grid.{Next}
use Rattle.mapf_grid.specs.Instance.{Instance}
use Rattle.mapf_grid.specs.Least.{IsLeast, NoneBefore}
use Rattle.mapf_plan.specs.Path.{cost}
use Rattle.mapf_plan.specs.Plan.{path_of, place, plan_cost, IsConflict, conflict_rank, IsValid}
use Rattle.mapf_plan.specs.declared.answer.Answer.{Answer}
use Rattle.mapf_plan.specs.declared.answer.Answer.TheVariants as answer
use Rattle.mapf_plan.specs.declared.rule.Rule.{Rule}
use Rattle.mapf_check.specs.declared.verdict.Verdict.{Verdict}
use Rattle.mapf_check.specs.declared.verdict.Verdict.TheVariants.{Valid, NoPlanGiven, AgentCount, WrongStart, BadStep, WrongEnd, EndsLate, Conflict, WrongCost}

-- an agent of the instance, to which the plan gives a path
abbrev pub HasPath : Instance → List (List ℕ) → ℕ → Type 0
HasPath inst plan i = (i < length inst.starts) × (i < length plan)

-- when a plan with a stated cost has a fault; it may have several
abbrev pub HasFault : Rule → Instance → List (List ℕ) → ℕ → Verdict → Type 0
HasFault rule inst plan stated (Valid c) = ⊥
HasFault rule inst plan stated NoPlanGiven = ⊥
HasFault rule inst plan stated (AgentCount paths) = (paths ≡ length plan) × (paths ≢ length inst.starts)
HasFault rule inst plan stated (WrongStart i) =
    HasPath inst plan i × ¬ (slice_get (path_of plan i) 0 ≡ Some (slice_index inst.starts i))
HasFault rule inst plan stated (BadStep i t) =
    HasPath inst plan i × (0 < t) × (t ≤ cost (path_of plan i)) × ¬ Next inst.grid (place plan i (t - 1)) (place plan i t)
HasFault rule inst plan stated (WrongEnd i) =
    HasPath inst plan i × (place plan i (cost (path_of plan i)) ≢ slice_index inst.goals i)
HasFault rule inst plan stated (EndsLate i) =
    HasPath inst plan i × (0 < cost (path_of plan i))
    × (place plan i (cost (path_of plan i) - 1) ≡ slice_index inst.goals i)
HasFault rule inst plan stated (Conflict c) = IsConflict rule plan c
HasFault rule inst plan stated (WrongCost s found) = (s ≡ stated) × (found ≡ plan_cost plan) × (stated ≢ plan_cost plan)

-- by kind, then agents rising, then times rising; a conflict by the order of conflicts
abbrev pub verdict_rank : Verdict → List ℕ
verdict_rank (Valid c) = []
verdict_rank NoPlanGiven = []
verdict_rank (AgentCount paths) = 61 ∷ []
verdict_rank (WrongStart i) = 62 ∷ i ∷ []
verdict_rank (BadStep i t) = 63 ∷ i ∷ t ∷ []
verdict_rank (WrongEnd i) = 64 ∷ i ∷ []
verdict_rank (EndsLate i) = 65 ∷ i ∷ []
verdict_rank (Conflict c) = 66 ∷ conflict_rank c
verdict_rank (WrongCost s found) = 67 ∷ []

-- of a plan: valid, at the stated cost, or else the first fault
abbrev pub IsPlanVerdict : Rule → Instance → List (List ℕ) → ℕ → Verdict → Type 0
IsPlanVerdict rule inst plan stated (Valid c) = IsValid rule inst plan × (plan_cost plan ≡ stated) × (c ≡ stated)
IsPlanVerdict rule inst plan stated fault = IsLeast verdict_rank (HasFault rule inst plan stated) fault

-- the verdict on an answer
abbrev pub IsVerdict : Rule → Instance → Answer → Verdict → Type 0
IsVerdict rule inst (answer.None bound) verdict = verdict ≡ NoPlanGiven
IsVerdict rule inst (answer.GaveUp nodes least) verdict = verdict ≡ NoPlanGiven
IsVerdict rule inst (answer.Plan plan stated) verdict = IsPlanVerdict rule inst plan stated verdict

-- by a rule an answer has no second verdict
abbrev pub HasOneVerdict : Type 0
HasOneVerdict = (rule : Rule) (inst : Instance) (a : Answer) (v w : Verdict) → IsVerdict rule inst a v → IsVerdict rule inst a w → v ≡ w

-- an answer that is a valid plan of this cost, which is the one stated with it
abbrev pub IsValidAnswer : Rule → Instance → Answer → ℕ → Type 0
IsValidAnswer rule inst (answer.None bound) c = ⊥
IsValidAnswer rule inst (answer.GaveUp nodes least) c = ⊥
IsValidAnswer rule inst (answer.Plan plan stated) c = IsValid rule inst plan × (plan_cost plan ≡ stated) × (c ≡ stated)

-- an answer without a plan
abbrev pub IsNoPlan : Answer → Type 0
IsNoPlan (answer.None bound) = Unit {0}
IsNoPlan (answer.GaveUp nodes least) = Unit {0}
IsNoPlan (answer.Plan plan stated) = ⊥

-- no fault ranks before this one, by either rule and whatever cost is stated
abbrev pub NoFaultBefore : Instance → List (List ℕ) → List ℕ → Type 0
NoFaultBefore inst plan r = (rule : Rule) (stated : ℕ) → NoneBefore verdict_rank (HasFault rule inst plan stated) r

-- the first fault, by either rule and whatever cost is stated
abbrev pub IsFirstFault : Instance → List (List ℕ) → Verdict → Type 0
IsFirstFault inst plan fault = (rule : Rule) (stated : ℕ) → IsLeast verdict_rank (HasFault rule inst plan stated) fault
