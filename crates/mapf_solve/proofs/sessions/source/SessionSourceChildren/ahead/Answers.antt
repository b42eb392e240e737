use Rattle.std.proofs.Common.{subst}
use Rattle.mapf_tree.specs.Nodes.{AllStand}
use Rattle.mapf_solve.proofs.sessions.source.SessionSourceChildren.ahead.Goals as goal

pub post_all-requires : goal.post_all-requires
post_all-requires g c = subst (λ p. AllStand p c.args.waiting.now) c.requires.serves c.requires.nodes
