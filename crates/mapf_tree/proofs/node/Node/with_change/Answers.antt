use Rattle.mapf_tree.proofs.Prelude.{length, replicate, set, [], subst, sym, ap, ap₂, ◌∙◌}
use Rattle.mapf_tree.specs.Prelude.{plan_cost, changed_plan, changed_sets, AgreesWith, Changed, Body, node_of, with_one}
use Rattle.mapf_tree.proofs.node.Chains.{plan_turned, sets_turned, agrees_turned}
use Rattle.mapf_tree.proofs.node.Node.with_change.Goals as goal

pub invariant_of-result : goal.invariant_of-result
invariant_of-result c =
    subst (λ (b : Body). AgreesWith b.key.cost b.key.depth (node_of b.key.name b.chain b.conflict)) (sym c.in_ok-new.ensures.ok)
    (agrees_turned _ _ _ c.args.self.now c.self.view_is c.args.change.value c.in_ok-with.field-0
    (c.in_ok-with.ensures ∙ ap (λ (b : Body). with_one b.chain c.args.change.value) c.deref-4.ensures)
    c.self.inside.body.value.key.cost c.self.inside.body.value.key.depth c.in_ok-key.key.cost c.in_ok-key.key.depth c.in_ok-key.key.name c.args.side c.args.conflict c.self.invariant c.requires.agent
    (c.in_ok-key.ensures.cost ∙ ap₂ (λ agent path. plan_cost (set c.args.self.now.plan agent path)) (ap (λ (x : Changed). x.agent) (c.behind-change.view_is ∙ c.deref.ensures)) (c.deref-3.ensures ∙ ap (λ (x : Changed). x.path) (c.behind-change-2.view_is ∙ c.deref-2.ensures))) c.in_ok-key.ensures.depth c.in_ok-key.ensures.name
    c.requires.conflict)

pub returns-clause-constraints : goal.returns-clause-constraints
returns-clause-constraints c =
    ap (λ (b : Body). changed_sets (replicate (length b.chain.root) []) b.chain.changes) c.in_ok-new.ensures.ok
    ∙ sets_turned _ _ _ c.args.self.now c.self.view_is c.args.change.value c.in_ok-with.field-0
    (c.in_ok-with.ensures ∙ ap (λ (b : Body). with_one b.chain c.args.change.value) c.deref-4.ensures)

pub returns-clause-plan : goal.returns-clause-plan
returns-clause-plan c =
    ap (λ (b : Body). changed_plan b.chain.root b.chain.changes) c.in_ok-new.ensures.ok
    ∙ plan_turned _ _ _ c.args.self.now c.self.view_is c.args.change.value c.in_ok-with.field-0
    (c.in_ok-with.ensures ∙ ap (λ (b : Body). with_one b.chain c.args.change.value) c.deref-4.ensures)
