use Rattle.std.proofs.Common.{ℕ, List, Contains, take}
use Rattle.mapf_optimum.specs.PlaceNumbers.{Grows, IsKnown}
use Rattle.mapf_optimum.proofs.together.steps.add_all.Given as goal

abbrev pub invariant-loop-joint : goal.invariant-loop-joint
invariant-loop-joint l = record {
  grows : Grows l.initial.known l.known;
  has : (x : List ℕ) → Contains (take l.joint-index l.joints) x → IsKnown l.known x;
}
