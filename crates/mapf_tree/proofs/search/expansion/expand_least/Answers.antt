use Rattle.std.proofs.Common.{◌≡◌, ◌∷◌, Some, subst, sym, ap, ◌∙◌}
use Rattle.mapf_tree.specs.Prelude.{Conflict, Node, IsBranching}
use Rattle.mapf_tree.proofs.high_level.Expansions.{solved_case, branches, branched_case, conflict_there, some_there, conflict_absent}
use Rattle.mapf_tree.proofs.search.expansion.expand_least.Goals as goal

pub returns-then-is_none-clause-expanded : goal.returns-then-is_none-clause-expanded
returns-then-is_none-clause-expanded g c =
    solved_case c.args.problem.now c.args.waiting.now c.take_least.new.self c.in-Some.node c.in_ok-plan.plan c.in-Some.ensures.taken c.in-Some.ensures.rising c.requires.nodes
    (conflict_absent _ _ _ c.is_none.ensures c.conflict.ensures.conflict c.if-is_none.true) c.in_ok-plan.ensures

pub returns-clause-expanded : goal.returns-clause-expanded
returns-clause-expanded g c =
    let same : c.in-Some.node ≡ c.share_changes-node.result = sym c.share_changes-node.ensures in
    branched_case c.args.problem.now c.args.waiting.now c.take_least.new.self c.add_if_some.new.waiting c.add_if_some-2.new.waiting c.share_changes-node.result c.in_ok-left.left c.in_ok-left.right
    (c.in-Some.ensures.taken ∙ ap (λ n. n ∷ c.take_least.new.self) same) c.in-Some.ensures.rising c.requires.nodes
    (subst (λ (n : Node). (found : Conflict) × (n.conflict ≡ Some found)) same (conflict_there _ _ _ c.is_none.ensures c.conflict.ensures.conflict c.if-is_none.false))
    c.in_ok-left.ensures.left c.in_ok-left.ensures.right c.in_ok-add_if_some.ensures c.in_ok-add_if_some-2.ensures

pub both-requires-clause-branching : goal.both-requires-clause-branching
both-requires-clause-branching g c =
    subst (IsBranching c.args.problem.now) (sym c.share_changes-node.ensures)
    (branches c.args.problem.now c.args.waiting.now c.take_least.new.self c.in-Some.node c.in-Some.ensures.taken c.requires.nodes
    (some_there _ _ _ c.is_none.ensures c.conflict.ensures.conflict c.if-is_none.false))
