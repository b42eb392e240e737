use Rattle.std.proofs.Common.{◌≡◌, ◌-◌, ◌<◌, ℕ, List, [], Some, length}
use Rattle.std.specs.Prelude.{slice_get}
use Rattle.mapf_plan.specs.Plan.{path_of}
use Rattle.mapf_optimum.specs.PlaceNumbers.{AgentKnown, AllBegin, AreAtKnown, Grows, HaveBegun, IsAtNumber, number_in}
use Rattle.mapf_optimum.proofs.together.start.+add_first.Given as goal

abbrev pub decreases-add_first : goal.decreases-add_first
decreases-add_first l = length l.places.now - l.agent

abbrev pub invariant-loop-number : goal.invariant-loop-number
invariant-loop-number l = record {
  grows : Grows l.fn.known l.known;
  same : (i : ℕ) → i < l.agent → number_in l.numbers i ≡ number_in l.fn.numbers i;
  has : (plan : List (List ℕ)) → HaveBegun plan l.places l.agent l.fn.numbers → AllBegin plan l.places → (known : AgentKnown) → slice_get l.places l.agent ≡ Some known →
      (n : ℕ) → n < l.number → IsAtNumber known (path_of plan l.agent) 0 n → AreAtKnown plan l.places l.known [] 0;
}
