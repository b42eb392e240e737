use Rattle.std.proofs.Common.{◌≡◌, ◌+◌, ◌-◌, ◌<◌, ◌≤◌, ◌^◌, ℕ, Some, length, min}
use Rattle.std.specs.Prelude.{slice_get}
use Rattle.mapf_optimum.specs.Together.{Agent}
use Rattle.mapf_optimum.specs.PlaceNumbers.{number_in}
use Rattle.mapf_optimum.proofs.together.mosts_within.Given as goal

abbrev pub invariant-loop-agent : goal.invariant-loop-agent
invariant-loop-agent l = record {
  long : length l.mosts ≡ 5;
  each : (i : ℕ) (agent : Agent) → i < l.agent → slice_get l.agents i ≡ Some agent → min (agent.least + l.left) (2 ^ 32 - 1) ≤ number_in l.mosts i;
}
