use Rattle.std.proofs.Common.{ap, ◌∙◌, length}
use Rattle.mapf_tree.proofs.node.Chains.{agents_of_root}
use Rattle.mapf_tree.specs.Prelude.{Body}
use Rattle.mapf_tree.proofs.node.Node.agents.Goals as goal

pub returns-clause-agents : goal.returns-clause-agents
returns-clause-agents c = c.agents.ensures.agents ∙ ap length c.root.ensures.plan ∙ agents_of_root _ _ _ c.args.self.now c.self.view_is c.deref.result.now.chain (ap (λ (b : Body). b.chain) c.deref.ensures)
