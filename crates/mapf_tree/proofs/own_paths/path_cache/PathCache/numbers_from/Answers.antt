use Rattle.mapf_tree.proofs.Prelude.{◌≡◌, length, subst, arith, plan_of_numbers}
use Rattle.mapf_tree.specs.Prelude.{IfSome, AreSetsOf, AreFirstPaths}
use Rattle.mapf_tree.proofs.own_paths.path_cache.PathCache.numbers_from.Goals as goal

pub returns-clause-numbers : goal.returns-clause-numbers
returns-clause-numbers c =
    let cache = c.args.self.now in
    let node = c.args.node.now in
    let items = c.loop-agent.plan.numbers.items in
    let all : c.loop-agent.agent ≡ length node.plan = omega (arith, c.loop-agent-test.false, c.loop-agent.auto.agent-end, c.agents-agent-end.ensures.agents) in record {
      sets = subst (λ o. IfSome o (λ sets. AreSetsOf cache.sets sets.items node.constraints)) c.in-Some.is c.in_ok-sets.ensures;
      plan = c.loop-agent.invariant.1.0;
      same = plan_of_numbers cache.paths items node.plan c.loop-agent.invariant.1.1 (subst (AreFirstPaths cache.paths items node.plan) all c.loop-agent.invariant.1.2);
    }
