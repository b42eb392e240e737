use Rattle.std.proofs.Common.{◌+◌, ◌-◌, ◌≡◌, ℕ, ◌≤◌, List}
use Rattle.mapf_plan.specs.Plan.{plan_cost}
use Rattle.mapf_optimum.specs.Together.{IsPlanOf}
use Rattle.mapf_optimum.specs.PlaceNumbers.{AreKnownOf}
use Rattle.mapf_optimum.proofs.together.cost_together.Given as goal

abbrev pub invariant-loop-terms : goal.invariant-loop-terms
invariant-loop-terms l = record {
  rule : l.terms.rule ≡ l.fn.rule;
  bound : l.terms.bound ≡ l.bound;
  least : (plan : List (List ℕ)) (total : ℕ) → IsPlanOf l.fn.rule l.agents total plan → l.terms.total ≤ plan_cost plan;
  places : AreKnownOf l.agents l.bound l.places.items;
}

-- proposed from the loop's first test
abbrev pub decreases-loop-terms : goal.decreases-loop-terms
decreases-loop-terms l = l.bound + 1 - l.terms.total
