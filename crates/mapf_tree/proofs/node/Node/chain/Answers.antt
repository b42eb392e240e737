use Rattle.mapf_tree.proofs.node.Chains.{sets_of_changes}
use Rattle.mapf_tree.proofs.node.Node.chain.Goals as goal

pub returns-clause-constraints : goal.returns-clause-constraints
returns-clause-constraints c = sets_of_changes _ _ _ c.args.self.now c.self.view_is
