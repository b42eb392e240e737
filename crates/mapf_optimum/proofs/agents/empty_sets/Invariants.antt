use Rattle.std.proofs.Common.{◌≡◌, ◌≤◌, [], replicate}
use Rattle.std.specs.Vec.{vec_capacity}
use Rattle.mapf_optimum.proofs.agents.empty_sets.Given as goal

abbrev pub invariant-loop-agent : goal.invariant-loop-agent
invariant-loop-agent l = record {
  empty : l.sets.items ≡ replicate l._agent [];
  room : l.agents ≤ vec_capacity l.sets;
}
