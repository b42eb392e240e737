use Rattle.std.proofs.Common.{◌≡◌, ◌+◌, ◌<◌, ℕ, Some}
use Rattle.std.specs.Prelude.{slice_get}
use Rattle.mapf_optimum.specs.Together.{Agent}
use Rattle.mapf_optimum.specs.PlaceNumbers.{AgentKnown, AllFound, AllGetMore, IsLookedOn, number_in}
use Rattle.mapf_optimum.proofs.together.look_on.Given as goal

abbrev pub invariant-loop-agent : goal.invariant-loop-agent
invariant-loop-agent l = record {
  more : AllGetMore l.fn.places.items l.places.items;
  looked : AllFound l.agents l.places.items;
  there : (i : ℕ) (agent : Agent) (known : AgentKnown) → i < l.agent → slice_get l.agents i ≡ Some agent → slice_get l.places.items i ≡ Some known →
      IsLookedOn agent known (number_in l.numbers i) (number_in l.mosts i + 1);
}
