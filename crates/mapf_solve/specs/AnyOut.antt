-- What is answered to two files and an ask where any optimum will do, whichever of several. No tree occurs here.
use Rattle.std.specs.Prelude.{◌≡◌, ℕ, ◌≤◌, ◌⊎◌, List}
use Rattle.mapf_grid.specs.Instance.{Instance}
use Rattle.mapf_grid.specs.Asked.{IsAsked}
use Rattle.mapf_plan.specs.Plan.{plan_cost, IsValid}
use Rattle.mapf_plan.specs.Text.{text}
use Rattle.mapf_plan.specs.declared.answer.Answer.TheVariants as answer
use Rattle.mapf_optimum.specs.AnyAnswer.{IsAnyAnswer}
use Rattle.mapf_solve.specs.Out.{IsTextBy, IsBest}
use Rattle.mapf_solve.specs.declared.ask.Ask.{Ask}

-- the text of an optimum, or of none, or that the search gave up at the limit on nodes
abbrev pub IsAnyText : (map scen : List ℕ) → Ask → (bytes : List ℕ) → Type 0
IsAnyText map scen ask bytes = IsTextBy IsAnyAnswer map scen ask bytes

-- with a limit of n nodes the bytes are `gave up` with the limit and a cost that each plan without conflict has at least, or they
-- are best
pub record KeepsAnyLimit (map scen : List ℕ) (ask : Ask) (n : ℕ) (bytes : List ℕ) : Type 0 where
  pub inst : Instance
  pub asked : IsAsked map scen ask.agents inst
  pub best :
      ((least : ℕ) × (bytes ≡ text inst.grid (answer.GaveUp n least)) × ((plan : List (List ℕ)) → IsValid ask.rule inst plan → least ≤ plan_cost plan))
      ⊎ IsBest map scen ask bytes
