use Rattle.mapf_tree.proofs.high_level.LowerBounds.{first_given, cost-key, first_is_least_cost}
use Rattle.mapf_tree.proofs.search.lower_bound.least_cost.Goals as goal

pub returns-in-Some : goal.returns-in-Some
returns-in-Some c = λ p all.
    let first = first_given c.args.waiting.now c.first.result _ c.in-Some.node.now c.first.ensures.first c.in-Some.ensures.steps in
    first_is_least_cost p c.args.waiting.now first.0 c.in-Some.node.now c.key.result.now.cost all c.first.ensures.rising first.1
    (cost-key c.key.result.now c.in-Some.node.now c.key.ensures.rank)
