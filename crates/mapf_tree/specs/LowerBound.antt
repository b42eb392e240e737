-- What a search knows of the cost of each plan without conflict, also before it has an answer: best first, none costs less than the
-- least waiting node.
use Rattle.std.specs.Prelude.{◌≡◌, ◌≤◌, ◌⊎◌, ℕ, ◌+◌, List, [], Option, Some, None, Result, Ok, Err}
use Rattle.mapf_grid.specs.declared.fault.NoMemory.{NoMemory}
use Rattle.mapf_grid.specs.Least.{IsLeast}
use Rattle.mapf_plan.specs.Plan.{plan_cost, IsValid}
use Rattle.mapf_plan.specs.declared.answer.Answer.{Answer}
use Rattle.mapf_plan.specs.declared.answer.Answer.TheVariants as answer
use Rattle.mapf_tree.specs.Problem.{Problem}
use Rattle.mapf_tree.specs.Tree.{PlannedNode, key}
use Rattle.mapf_tree.specs.Nodes.{Node, HasNodeFor}

-- the cost of the least node that waits
abbrev pub IsLeastCost : Problem → List Node → ℕ → Type 0
IsLeastCost problem nodes least = (x : PlannedNode) × IsLeast key (HasNodeFor problem nodes) x × (least ≡ plan_cost x.1)

-- that cost; or more than the bound, where none waits
abbrev pub IsLeastWaiting : Problem → List Node → ℕ → Type 0
IsLeastWaiting problem nodes least = ((nodes ≡ []) × (least ≡ problem.bound + 1)) ⊎ IsLeastCost problem nodes least

-- what an answer states that each plan without conflict costs at least
abbrev pub least_stated : Answer → ℕ
least_stated (answer.Plan plan cost) = cost
least_stated (answer.None bound) = bound + 1
least_stated (answer.GaveUp nodes least) = least

-- the least that waits while there is no answer, and then what that states; nothing after memory ran out
abbrev pub IsLowerBound : Problem → List Node → Result (Option Answer) NoMemory → ℕ → Type 0
IsLowerBound problem nodes (Ok None) least = IsLeastWaiting problem nodes least
IsLowerBound problem nodes (Ok (Some given)) least = least ≡ least_stated given
IsLowerBound problem nodes (Err _) least = ⊥

-- each plan without conflict costs at least so much
abbrev pub IsBelowAll : Problem → ℕ → Type 0
IsBelowAll problem least = (plan : List (List ℕ)) → IsValid problem.rule problem.inst plan → least ≤ plan_cost plan
