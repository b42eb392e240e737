use Rattle.std.proofs.Common.{◌≡◌, ◌≤◌, length, take}
use Rattle.std.specs.Vec.{vec_capacity}
use Rattle.mapf_optimum.proofs.agents.copy_sets.Given as goal

abbrev pub invariant-loop-set : goal.invariant-loop-set
invariant-loop-set l = record {
  equal : l.copies.items ≡ take l.set-index l.sets;
  room : length l.sets ≤ vec_capacity l.copies;
}
