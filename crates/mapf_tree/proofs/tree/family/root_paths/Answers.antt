use Rattle.std.proofs.Common.{[], refl, subst, arith}
use Rattle.mapf_tree.specs.Prelude.{IsOwn}
use Rattle.mapf_tree.proofs.RootNodes.{own_more}
use Rattle.mapf_tree.proofs.tree.family.root_paths.Goals as goal

pub loop-agent-preserved : goal.loop-agent-preserved
loop-agent-preserved c =
    let more = own_more c.args.problem.now c.loop-agent.paths.items c.push_reserved.new.self.items [] c.loop-agent.agent c.in-Some.path refl
    c.loop-agent.invariant.0 c.loop-agent.invariant.1 c.push_reserved.ensures.items
    (subst (IsOwn c.args.problem.now c.loop-agent.agent []) c.in-Some.is c.in_ok-path.ensures) in
    (more.0, more.1, omega (arith, c.push_reserved.ensures.capacity, c.loop-agent.invariant.2))
