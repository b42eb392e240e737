use Rattle.std.proofs.Common.{◌≡◌}
use Rattle.mapf_bounds.specs.Groups.{AreKnownAt}
use Rattle.mapf_bounds.proofs.node_bounds.NodeBounds.new_groups.Given as goal

abbrev pub invariant-loop-conflict : goal.invariant-loop-conflict
invariant-loop-conflict l = AreKnownAt l.fn.self.problem l.node l.groups.items × (l.self ≡ l.fn.self)
