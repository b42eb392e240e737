use Rattle.std.proofs.Common.{◌≡◌, ◌≤◌, length, take}
use Rattle.std.specs.Vec.{vec_capacity}
use Rattle.mapf_optimum.proofs.agents.copy_paths.Given as goal

abbrev pub invariant-loop-path : goal.invariant-loop-path
invariant-loop-path l = record {
  equal : l.copies.items ≡ take l.path-index l.paths;
  room : length l.paths ≤ vec_capacity l.copies;
}
