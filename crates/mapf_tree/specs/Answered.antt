-- What a solver answers: a plan with its cost, none with the bound, or that it gave up; and that this is best.
use Rattle.std.specs.Prelude.{◌≡◌, ℕ, ◌≤◌, ◌⊎◌, List, Option, Some, None}
use Rattle.mapf_plan.specs.Plan.{plan_cost, IsValid, IsOptimum}
use Rattle.mapf_plan.specs.declared.answer.Answer.{Answer}
use Rattle.mapf_plan.specs.declared.answer.Answer.TheVariants as answer
use Rattle.mapf_tree.specs.Problem.{Problem}
use Rattle.mapf_tree.specs.Tree.{PlannedNode, IsAnswer}
use Rattle.mapf_tree.specs.Cut.{IsCutAt}

-- a plan is stated with its cost, and no plan with the bound
abbrev pub stated : Problem → Option (List (List ℕ)) → Answer
stated problem (Some plan) = answer.Plan plan (plan_cost plan)
stated problem None = answer.None problem.bound

-- the answer without a limit on nodes, as it is stated
abbrev pub IsStated : Problem → Answer → Type 0
IsStated problem given = (plan : Option (List (List ℕ))) × IsAnswer problem plan × (given ≡ stated problem plan)

-- with a limit of n nodes it is given up exactly where the tree has a node at place n that is in the cut or is the first
-- solution, and the cost of that node is stated
abbrev pub IsAnswerUpTo : Option ℕ → Problem → Answer → Type 0
IsAnswerUpTo None problem given = IsStated problem given
IsAnswerUpTo (Some n) problem given =
    ((m : PlannedNode) × IsCutAt problem n m × (given ≡ answer.GaveUp n (plan_cost m.1)))
    ⊎ (((m : PlannedNode) → ¬ IsCutAt problem n m) × IsStated problem given)

-- the answer of a problem, as it is stated
abbrev pub IsAnswerOf : Problem → Answer → Type 0
IsAnswerOf problem = IsAnswerUpTo problem.nodes problem

-- a plan without conflict that costs least of all such plans; none where each costs more than the bound; or, at the limit on
-- nodes, a cost that each such plan has at least
abbrev pub IsBestAnswer : Problem → Answer → Type 0
IsBestAnswer problem (answer.Plan plan cost) = IsOptimum problem.rule problem.inst problem.bound plan × (cost ≡ plan_cost plan)
IsBestAnswer problem (answer.None bound) = (bound ≡ problem.bound) × ((plan : List (List ℕ)) → IsValid problem.rule problem.inst plan → plan_cost plan ≤ problem.bound → ⊥)
IsBestAnswer problem (answer.GaveUp nodes least) = (problem.nodes ≡ Some nodes) × ((plan : List (List ℕ)) → IsValid problem.rule problem.inst plan → least ≤ plan_cost plan)
