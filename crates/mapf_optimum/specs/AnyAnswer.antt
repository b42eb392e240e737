-- What a search for any optimum answers (Stern et al. 2019: a valid plan of the least sum of costs). No tree occurs in it.
use Rattle.std.specs.Prelude.{◌≡◌, ℕ, ◌≤◌, List, Option, Some}
use Rattle.mapf_plan.specs.Plan.{plan_cost, IsValid, IsOptimum}
use Rattle.mapf_plan.specs.declared.answer.Answer.{Answer}
use Rattle.mapf_plan.specs.declared.answer.Answer.TheVariants as answer
use Rattle.mapf_tree.specs.Problem.{Problem}
use Rattle.mapf_tree.specs.LowerBound.{IsBelowAll}

-- an optimum, whichever of several, with its cost; or none, with the bound, if there is no valid plan within the bound; or, at a
-- limit on nodes, a cost within the bound that each valid plan has at least
abbrev pub IsAnyAnswerUpTo : Option ℕ → Problem → Answer → Type 0
IsAnyAnswerUpTo limit problem (answer.Plan plan cost) = IsOptimum problem.rule problem.inst problem.bound plan × (cost ≡ plan_cost plan)
IsAnyAnswerUpTo limit problem (answer.None bound) = (bound ≡ problem.bound) × ((plan : List (List ℕ)) → IsValid problem.rule problem.inst plan → plan_cost plan ≤ problem.bound → ⊥)
IsAnyAnswerUpTo limit problem (answer.GaveUp nodes least) = (limit ≡ Some nodes) × (least ≤ problem.bound) × IsBelowAll problem least

-- the limit is the problem's
abbrev pub IsAnyAnswer : Problem → Answer → Type 0
IsAnyAnswer problem = IsAnyAnswerUpTo problem.nodes problem
