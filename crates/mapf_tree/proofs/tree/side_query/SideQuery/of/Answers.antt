use Rattle.std.proofs.Common.{rules, ◌≡◌, ◌<◌, ◌≤◌, [], get_or, length, subst, sym, ap, ◌∙◌}
use Rattle.mapf_tree.specs.Prelude.{cost, Conflict, agent_on, constraint_on}
use Rattle.mapf_tree.proofs.ConstraintSets.{with_same}
use Rattle.mapf_tree.proofs.sides.LeastCosts.{costs_no_less}
use Rattle.mapf_tree.proofs.sides.SideNodes.{agent_inside}
use Rattle.mapf_tree.proofs.tree.side_query.SideQuery.of.Goals as goal

pub returns-clause-query : goal.returns-clause-query
returns-clause-query c = record {
  agent = λ on is. let same : c.unwrap-conflict.result ≡ on = cc in c.agent_of-agent.ensures ∙ ap (λ (x : Conflict). agent_on x c.args.side) same;
  constraint = λ on is. let same : c.unwrap-conflict.result ≡ on = cc in c.constraint_of-constraint.ensures ∙ ap (λ (x : Conflict). constraint_on x c.args.side) same;
  constraints = with_same c.constraint_of-constraint.result c.in_ok-constraints.field-0 (get_or c.args.node.now.constraints c.agent_of-agent.result []) c.in_ok-and.field-0 c.in_ok-constraints.ensures c.in_ok-and.ensures;
  leaves = c.bound_for.ensures.leaves;
}

pub invariant_of-result : goal.invariant_of-result
invariant_of-result c =
    let inside : c.agent_of-agent.result < length c.args.problem.now.inst.starts = subst (λ n. n < length c.args.problem.now.inst.starts) (sym c.agent_of-agent.ensures) (agent_inside c.args.problem.now c.args.node.now c.requires.of c.unwrap-conflict.result c.args.side c.requires.stands (sym c.conflict.ensures.conflict ∙ c.unwrap-conflict.ensures)) in record {
      inside = inside;
      bound = c.bound_for.ensures.bounded;
      small = c.bound_for.ensures.small;
      ends = search rules;
      from_start = search rules;
      costs = λ path allowed. subst (λ n. n ≤ cost path) (sym (c.cost-least.ensures.cost ∙ ap cost c.path.ensures))
          (costs_no_less c.args.problem.now c.args.node.now c.requires.of c.agent_of-agent.result c.bound_for.result c.constraint_of-constraint.result c.in_ok-and.field-0 c.requires.stands inside c.bound_for.ensures.leaves
          (with_same c.constraint_of-constraint.result c.in_ok-constraints.field-0 (get_or c.args.node.now.constraints c.agent_of-agent.result []) c.in_ok-and.field-0 c.in_ok-constraints.ensures c.in_ok-and.ensures) path allowed);
    }
