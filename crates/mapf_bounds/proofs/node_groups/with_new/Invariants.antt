use Rattle.std.proofs.Common.{Contains}
use Rattle.mapf_optimum.specs.declared.group_bound.GroupBound.{GroupBound}
use Rattle.mapf_bounds.specs.Groups.{FollowBoth}
use Rattle.mapf_bounds.proofs.node_groups.with_new.Given as goal

abbrev pub invariant-loop-group : goal.invariant-loop-group
invariant-loop-group l = record {
  among : (g : GroupBound) → Contains l.group-iterator.rest.items g → Contains l.fn.new.items g;
  both : FollowBoth l.fn.known.value.items l.fn.new.items l.all.items;
}
