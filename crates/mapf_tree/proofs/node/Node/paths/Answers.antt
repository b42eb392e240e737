use Rattle.std.proofs.Common.{ap}
use Rattle.mapf_tree.proofs.node.Chains.{all_at_root}
use Rattle.mapf_tree.specs.Prelude.{Body}
use Rattle.mapf_tree.proofs.node.Node.paths.Goals as goal

pub paths-requires : goal.paths-requires
paths-requires c = all_at_root _ _ _ c.args.self.now c.self.view_is c.deref.result.now.chain (ap (λ (b : Body). b.chain) c.deref.ensures) c.self.invariant.agents
