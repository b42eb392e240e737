use Rattle.mapf_tree.proofs.node.Chains.{sets_at}
use Rattle.mapf_tree.specs.Prelude.{Body}
use Rattle.mapf_tree.proofs.node.Node.constraints.Goals as goal
use Rattle.mapf_tree.proofs.Prelude.{ap, IfOk-weaker}

pub returns : goal.returns
returns c =
    IfOk-weaker c.constraints.result _ _ (λ set gathered. sets_at _ _ _ c.args.self.now c.self.view_is c.args.agent set c.deref.result.now.chain (ap (λ (b : Body). b.chain) c.deref.ensures) c.requires gathered) c.constraints.ensures
