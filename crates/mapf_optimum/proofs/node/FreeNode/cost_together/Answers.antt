use Rattle.std.proofs.Common.{◌≡◌, ◌+◌, ◌≤◌, length, ap, arith, subst, subst₂, sym}
use Rattle.std.proofs.lemmas.Result.{IfOk-weaker}
use Rattle.mapf_plan.specs.Plan.{plan_cost}
use Rattle.mapf_optimum.specs.Together.{IsPlanOf}
use Rattle.mapf_optimum.specs.FreeTree.{FreeNode}
use Rattle.mapf_optimum.specs.Groups.{alone}
use Rattle.mapf_optimum.proofs.TogetherAgents.{AreFirst, as_read, below_candidates, below_plans, one_more_agent}
use Rattle.mapf_optimum.proofs.node.FreeNode.cost_together.Goals as goal

-- src/node/grouped.rt:232:9
pub loop-agent-init : goal.loop-agent-init
loop-agent-init c = record { long = ap length c.new-agents.ensures.items; each = λ i h. absurd (omega (arith, h)) }

-- src/node/grouped.rt:232:9
pub loop-agent-preserved : goal.loop-agent-preserved
loop-agent-preserved c =
    let node = c.args.self.now in
    let sets = ap (λ (n : FreeNode). n.sets) c.self.view_is in
    let costs = ap (λ (n : FreeNode). n.costs) c.self.view_is in
    let size : c.len-agent-end.result ≡ length node.sets = omega (arith, c.len-agent-end.ensures, c.self.inside.sets.ok, ap length sets) in
    subst (AreFirst (alone c.args.part.now) node.sets node.costs (c.loop-agent.agent + 1)) (sym c.in_ok-push.ensures.items)
    (one_more_agent (alone c.args.part.now) node.sets node.costs c.loop-agent.agent c.loop-agent.agents.items c.agent.result c.loop-agent.invariant
    (as_read (alone c.args.part.now) node c.self.inside.sets.items c.self.inside.costs.items c.agent.result c.loop-agent.agent c.index-in-loop-agent.result.now c.index.result.now sets costs
    (omega (arith, c.loop-agent-test.true, size)) (omega (arith, c.loop-agent-test.true, size, c.requires.node.agents, c.requires.node.costs.agents)) c.index.ensures c.index-in-loop-agent.ensures c.agent.ensures))

-- src/node/grouped.rt:235:9
pub cost_together-requires-clause-few : goal.cost_together-requires-clause-few
cost_together-requires-clause-few c =
    let size : c.len-agent-end.result ≡ length c.args.self.now.sets = omega (arith, c.len-agent-end.ensures, c.self.inside.sets.ok, ap (λ (n : FreeNode). length n.sets) c.self.view_is) in
    omega (arith, ap length c.deref.ensures.value, c.loop-agent.invariant.long, c.loop-agent.auto.agent-end, size, c.requires.few)

-- src/node/grouped.rt:235:9
pub cost_together-requires-clause-least : goal.cost_together-requires-clause-least
cost_together-requires-clause-least c plan total is =
    let node = c.args.self.now in
    let size : c.len-agent-end.result ≡ length node.sets = omega (arith, c.len-agent-end.ensures, c.self.inside.sets.ok, ap (λ (n : FreeNode). length n.sets) c.self.view_is) in
    subst (λ k. k ≤ plan_cost plan) (sym (ap (λ (n : FreeNode). n.label) c.self.view_is))
    (below_plans (alone c.args.part.now) node.sets node.costs c.loop-agent.agents.items c.loop-agent.agent c.loop-agent.invariant
    (omega (arith, c.loop-agent-test.false, c.loop-agent.auto.agent-end, size, c.requires.node.agents)) node.label c.requires.node.within c.requires.node.below plan total
    (subst₂ (λ r a. IsPlanOf r a total plan) c.rule.ensures c.deref.ensures.value is))

-- src/node/grouped.rt:221:5
pub returns : goal.returns
returns c =
    let node = c.args.self.now in
    let size : c.len-agent-end.result ≡ length node.sets = omega (arith, c.len-agent-end.ensures, c.self.inside.sets.ok, ap (λ (n : FreeNode). length n.sets) c.self.view_is) in
    IfOk-weaker c.cost_together.result _ _ (λ found told.
    below_candidates (alone c.args.part.now) node.sets node.costs c.loop-agent.agents.items c.loop-agent.agent c.loop-agent.invariant
    (omega (arith, c.loop-agent-test.false, c.loop-agent.auto.agent-end, size, c.requires.node.agents)) found.least c.requires.node.costs
    (λ plan total is. told plan total (subst₂ (λ r a. IsPlanOf r a total plan) (sym c.rule.ensures) (sym c.deref.ensures.value) is))) c.cost_together.ensures
