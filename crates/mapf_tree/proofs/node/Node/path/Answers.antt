use Rattle.std.proofs.Common.{ap}
use Rattle.mapf_tree.proofs.node.Chains.{at_root}
use Rattle.mapf_tree.specs.Prelude.{Body}
use Rattle.mapf_tree.proofs.node.Node.path.Goals as goal

pub path-requires : goal.path-requires
path-requires c = at_root _ _ _ c.args.self.now c.self.view_is c.args.agent c.deref.result.now.chain (ap (λ (b : Body). b.chain) c.deref.ensures) c.requires
