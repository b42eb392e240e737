use Rattle.std.proofs.Common.{arith}
use Rattle.mapf_optimum.specs.Groups.{alone}
use Rattle.mapf_optimum.proofs.ChosenGroups.{bound_of_node, groups_of_node}
use Rattle.mapf_optimum.proofs.node.FreeNode.finished.Goals as goal

pub least-requires : goal.least-requires
least-requires c = groups_of_node (alone c.args.part.now) c.args.self c.requires

pub raised-node-requires-clause-below : goal.raised-node-requires-clause-below
raised-node-requires-clause-below c = bound_of_node (alone c.args.part.now) c.args.self c.in_ok-least.least c.requires c.in_ok-least.ensures

pub returns-then-least-from : goal.returns-then-least-from
returns-then-least-from c plan candidate =
    omega (arith, c.if-least-from.true, c.from.ensures, c.bound.ensures.bound, candidate.within, bound_of_node (alone c.args.part.now) c.args.self c.in_ok-least.least c.requires c.in_ok-least.ensures plan candidate)
