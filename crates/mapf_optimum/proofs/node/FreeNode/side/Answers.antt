use Rattle.std.proofs.Common.{ap}
use Rattle.mapf_optimum.specs.FreeTree.{FreeNode}
use Rattle.mapf_optimum.specs.Groups.{alone}
use Rattle.mapf_optimum.proofs.ChosenGroups.{bound_of_node, groups_of_node}
use Rattle.mapf_optimum.proofs.Sides.{side_made, side_without, side_with, pays_no_less, cost_at, child_is}
use Rattle.mapf_optimum.proofs.node.FreeNode.side.Goals as goal

pub least_path-requires-clause-least : goal.least_path-requires-clause-least
least_path-requires-clause-least c =
    pays_no_less (alone c.args.part.now) c.args.self.now c.args.conflict.now c.args.side c.requires.node c.requires.choice c.agent_of-agent.result c.left_for-bound.result c.in_ok-set.set
    (side_made (alone c.args.part.now) c.args.self.now c.args.conflict.now c.args.side c.requires.node c.requires.choice c.agent_of-agent.result c.constraint_of.result c.self.inside.sets.items c.index.result.now c.in_ok-set.set c.agent_of-agent.ensures c.constraint_of.ensures (ap (λ (n : FreeNode). n.sets) c.self.view_is) c.index.ensures c.in_ok-set.ensures)
    c.agent_of-agent.ensures c.left_for-bound.ensures.left c.index-2.result.now
    (cost_at (alone c.args.part.now) c.args.self.now c.args.conflict.now c.args.side c.requires.node c.requires.choice c.agent_of-agent.result c.index-2.result.now c.self.inside.costs.items c.agent_of-agent.ensures c.index-2.ensures (ap (λ (n : FreeNode). n.costs) c.self.view_is))

pub returns-in_default : goal.returns-in_default
returns-in_default c =
    side_without (alone c.args.part.now) c.args.self.now c.args.conflict.now c.args.side c.requires.node c.requires.choice c.agent_of-agent.result c.left_for-bound.result c.in_ok-set.set
    (side_made (alone c.args.part.now) c.args.self.now c.args.conflict.now c.args.side c.requires.node c.requires.choice c.agent_of-agent.result c.constraint_of.result c.self.inside.sets.items c.index.result.now c.in_ok-set.set c.agent_of-agent.ensures c.constraint_of.ensures (ap (λ (n : FreeNode). n.sets) c.self.view_is) c.index.ensures c.in_ok-set.ensures)
    c.agent_of-agent.ensures c.left_for-bound.ensures.left c.in_ok-path.field-0 c.in_ok-path.ensures c.in_default.is

pub least-requires : goal.least-requires
least-requires c =
    groups_of_node (alone c.args.part.now) c.in_ok-child.child
    (child_is (alone c.args.part.now) c.args.self.now c.args.conflict.now c.args.side c.requires.node c.requires.choice c.agent_of-agent.result c.left_for-bound.result c.in_ok-set.set
    (side_made (alone c.args.part.now) c.args.self.now c.args.conflict.now c.args.side c.requires.node c.requires.choice c.agent_of-agent.result c.constraint_of.result c.self.inside.sets.items c.index.result.now c.in_ok-set.set c.agent_of-agent.ensures c.constraint_of.ensures (ap (λ (n : FreeNode). n.sets) c.self.view_is) c.index.ensures c.in_ok-set.ensures)
    c.agent_of-agent.ensures c.left_for-bound.ensures.left c.in_ok-path.field-0 c.in_ok-path.ensures c.in-Some.path c.in_ok-child.child c.in-Some.is c.in_ok-child.ensures.sets c.in_ok-child.ensures.costs c.in_ok-child.ensures.plan c.in_ok-child.ensures.groups c.in_ok-child.ensures.label
    c.in_ok-child.ensures.fresh)

pub raised-requires-clause-node : goal.raised-requires-clause-node
raised-requires-clause-node c =
    child_is (alone c.args.part.now) c.args.self.now c.args.conflict.now c.args.side c.requires.node c.requires.choice c.agent_of-agent.result c.left_for-bound.result c.in_ok-set.set
    (side_made (alone c.args.part.now) c.args.self.now c.args.conflict.now c.args.side c.requires.node c.requires.choice c.agent_of-agent.result c.constraint_of.result c.self.inside.sets.items c.index.result.now c.in_ok-set.set c.agent_of-agent.ensures c.constraint_of.ensures (ap (λ (n : FreeNode). n.sets) c.self.view_is) c.index.ensures c.in_ok-set.ensures)
    c.agent_of-agent.ensures c.left_for-bound.ensures.left c.in_ok-path.field-0 c.in_ok-path.ensures c.in-Some.path c.in_ok-child.child c.in-Some.is c.in_ok-child.ensures.sets c.in_ok-child.ensures.costs c.in_ok-child.ensures.plan c.in_ok-child.ensures.groups c.in_ok-child.ensures.label
    c.in_ok-child.ensures.fresh

pub raised-requires-clause-below : goal.raised-requires-clause-below
raised-requires-clause-below c =
    bound_of_node (alone c.args.part.now) c.in_ok-child.child c.in_ok-least.least
    (child_is (alone c.args.part.now) c.args.self.now c.args.conflict.now c.args.side c.requires.node c.requires.choice c.agent_of-agent.result c.left_for-bound.result c.in_ok-set.set
    (side_made (alone c.args.part.now) c.args.self.now c.args.conflict.now c.args.side c.requires.node c.requires.choice c.agent_of-agent.result c.constraint_of.result c.self.inside.sets.items c.index.result.now c.in_ok-set.set c.agent_of-agent.ensures c.constraint_of.ensures (ap (λ (n : FreeNode). n.sets) c.self.view_is) c.index.ensures c.in_ok-set.ensures)
    c.agent_of-agent.ensures c.left_for-bound.ensures.left c.in_ok-path.field-0 c.in_ok-path.ensures c.in-Some.path c.in_ok-child.child c.in-Some.is c.in_ok-child.ensures.sets c.in_ok-child.ensures.costs c.in_ok-child.ensures.plan c.in_ok-child.ensures.groups c.in_ok-child.ensures.label
    c.in_ok-child.ensures.fresh) c.in_ok-least.ensures

pub returns : goal.returns
returns c =
    side_with (alone c.args.part.now) c.args.self.now c.args.conflict.now c.args.side c.requires.node c.requires.choice c.agent_of-agent.result c.left_for-bound.result c.in_ok-set.set
    (side_made (alone c.args.part.now) c.args.self.now c.args.conflict.now c.args.side c.requires.node c.requires.choice c.agent_of-agent.result c.constraint_of.result c.self.inside.sets.items c.index.result.now c.in_ok-set.set c.agent_of-agent.ensures c.constraint_of.ensures (ap (λ (n : FreeNode). n.sets) c.self.view_is) c.index.ensures c.in_ok-set.ensures)
    c.agent_of-agent.ensures c.left_for-bound.ensures.left c.in_ok-child.child c.raised.result c.in_ok-child.ensures.sets c.raised.ensures
