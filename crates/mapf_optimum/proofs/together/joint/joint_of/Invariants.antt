use Rattle.std.proofs.Common.{◌≡◌, ◌<◌, ℕ, Some}
use Rattle.std.specs.Prelude.{slice_get}
use Rattle.mapf_optimum.specs.Together.{place_in}
use Rattle.mapf_optimum.specs.PlaceNumbers.{AgentKnown, HasNumber, number_in}
use Rattle.mapf_optimum.proofs.together.joint.joint_of.Given as goal

abbrev pub invariant-loop-agent : goal.invariant-loop-agent
invariant-loop-agent l = (i : ℕ) (known : AgentKnown) → i < l.agent → slice_get l.places i ≡ Some known → (time : ℕ) × HasNumber known (number_in l.numbers i) (place_in l.joint i) time
