use Rattle.std.proofs.Common.{◌≡◌, List, length}
use Rattle.mapf_optimum.specs.declared.group_bound.GroupBound.{GroupBound}
use Rattle.mapf_optimum.specs.Groups.{AreChosen}
use Rattle.mapf_optimum.proofs.group_bound.add_alone.Given as goal

abbrev pub invariant-loop-agent : goal.invariant-loop-agent
invariant-loop-agent l = record {
  long : length l.taken.items ≡ length l.costs;
  chosen : (groups : List GroupBound) → AreChosen l.costs groups l.fn.taken.items l.before → AreChosen l.costs groups l.taken.items l.sum;
}
