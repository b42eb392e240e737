use Rattle.std.proofs.Common.{◌≡◌, List, [], ◌∷◌, ◌<◌, ℕ, ◌+◌, get_or, length, ap, subst, sym, ◌∙◌, arith, length-append}
use Rattle.mapf_low.specs.declared.constraint.Constraint.{Constraint}
use Rattle.mapf_tree.specs.Nodes.{IsSameSet}
use Rattle.mapf_bounds.proofs.Groups.{one_more_set}
use Rattle.mapf_bounds.proofs.node_groups.sets_of.Goals as goal

pub loop-agent-preserved : goal.loop-agent-preserved
loop-agent-preserved c = record {
  long = omega (arith, ap length c.in_ok-push.ensures.items, length-append c.loop-agent.sets.items (c.in_ok-constraints.field-0 ∷ []), c.loop-agent.invariant.long);
  each = subst (λ (ss : List (List Constraint)). (k : ℕ) → k < c.loop-agent.agent-index + 1 → IsSameSet (get_or ss k []) (get_or c.args.node.now.constraints (get_or c.args.agents.now k 0) [])) (sym c.in_ok-push.ensures.items)
      (one_more_set c.args.node.now c.args.agents.now c.loop-agent.sets.items c.loop-agent.agent-index c.in_ok-constraints.field-0 c.loop-agent.invariant.long c.loop-agent.invariant.each c.in_ok-constraints.ensures);
}

pub returns : goal.returns
returns c =
    let whole : c.loop-agent.agent-index ≡ length c.args.agents.now = omega arith in
    record { long = c.loop-agent.invariant.long ∙ whole; each = λ k h. c.loop-agent.invariant.each k (omega (arith, h, whole)) }
