use Rattle.mapf_tree.proofs.Prelude.{◌≡◌, ◌+◌, ◌∙◌, length, subst, subst₂, sym, ap, arith, length_push, numbers_more, numbers_inside, plan_of_numbers}
use Rattle.mapf_tree.specs.Prelude.{IfSome, AreNumbers, IsKnownPlan, plan_of, PathCache, IsRemembered, AreSetsOf, AreFirstPaths}
use Rattle.mapf_tree.proofs.own_paths.path_cache.PathCache.all_numbers.Goals as goal

pub loop-agent-preserved : goal.loop-agent-preserved
loop-agent-preserved c =
    let paths = c.args.self.now.paths in
    let numbers = c.loop-agent.numbers.items in
    let number = c.in-Some-path_at.number in (
      ap length c.push_reserved.ensures.items ∙ length_push numbers number ∙ ap (λ k. k + 1) c.loop-agent.invariant.0,
      numbers_more paths paths numbers c.push_reserved.new.self.items number c.args.node.now.plan c.loop-agent.agent c.loop-agent.invariant.0 (λ m p h. h) c.loop-agent.invariant.1 c.in-Some-path_at.ensures c.push_reserved.ensures.items,
      omega (arith, c.push_reserved.ensures.capacity, c.loop-agent.invariant.2),
    )

pub plan-requires-clause-numbers : goal.plan-requires-clause-numbers
plan-requires-clause-numbers c =
    subst₂ (λ (b : PathCache) ns. AreNumbers b.paths ns) (sym c.self.view_is) (sym c.deref-2.ensures.value) (numbers_inside c.args.self.now.paths c.loop-agent.numbers.items c.args.node.now.plan c.loop-agent.agent c.loop-agent.invariant.0 c.loop-agent.invariant.1)

pub plan-requires-clause-agents : goal.plan-requires-clause-agents
plan-requires-clause-agents c =
    omega (arith, ap length c.deref-2.ensures.value, c.loop-agent.invariant.0, c.loop-agent.auto.agent-end, c.agents-agent-end.ensures.agents, c.agents-agent-end.ensures.few)

pub invariant_of-self : goal.invariant_of-self
invariant_of-self c = subst (IsRemembered c.self.inside.problem.now c.self.inside.firsts.items c.self.inside.latest c.self.inside.sets) (sym c.plan.ensures.known) c.self.invariant

pub invariant_of-self-2 : goal.invariant_of-self-2
invariant_of-self-2 c = subst (IsRemembered c.self.inside.problem.now c.self.inside.firsts.items c.self.inside.latest c.self.inside.sets) (sym c.plan.ensures.known) c.self.invariant

pub returns-clause-numbers : goal.returns-clause-numbers
returns-clause-numbers c =
    let cache = c.args.self.now in
    let node = c.args.node.now in
    let plan = c.in_ok-plan.plan in
    let items = c.loop-agent.numbers.items in
    let all : c.loop-agent.agent ≡ length node.plan = omega (arith, c.loop-agent-test.false, c.loop-agent.auto.agent-end, c.agents-agent-end.ensures.agents) in
    let numbers : plan.numbers.items ≡ items = c.in_ok-plan.ensures.numbers ∙ c.deref-2.ensures.value in record {
      sets = subst (λ o. IfSome o (λ sets. AreSetsOf cache.sets sets.items node.constraints)) c.in-Some.is c.in_ok-sets.ensures;
      plan = subst₂ (λ rule paths. IsKnownPlan (record { rule = rule; paths = paths }) plan.numbers.items plan.conflicts.items)
          (c.self.invariant.2 ∙ ap (λ (b : PathCache). b.problem.rule) c.self.view_is) (ap (λ (b : PathCache). b.paths) c.self.view_is) c.in_ok-plan.ensures.plan;
      same = ap (λ ns. plan_of cache.paths ns) numbers
          ∙ plan_of_numbers cache.paths items node.plan (c.loop-agent.invariant.0 ∙ all) (subst (AreFirstPaths cache.paths items node.plan) all c.loop-agent.invariant.1);
    }
