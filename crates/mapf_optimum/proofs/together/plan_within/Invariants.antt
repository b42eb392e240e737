use Rattle.std.proofs.Common.{ℕ, List}
use Rattle.mapf_optimum.specs.Together.{IsPlanOf}
use Rattle.mapf_optimum.specs.PlaceNumbers.{AreKnownOf, IsSearched}
use Rattle.mapf_optimum.proofs.together.plan_within.Given as goal

abbrev pub invariant-loop-joint : goal.invariant-loop-joint
invariant-loop-joint l = record {
  places : AreKnownOf l.agents l.terms.bound l.places.items;
  searched : (plan : List (List ℕ)) → IsPlanOf l.terms.rule l.agents l.terms.total plan → IsSearched plan l.places.items l.known;
}
