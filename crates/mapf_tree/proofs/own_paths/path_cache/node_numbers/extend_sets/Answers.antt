use Rattle.std.proofs.Common.{take, subst, sym, ◌∙◌, ap}
use Rattle.mapf_tree.specs.Prelude.{changed_sets, AreSetsOf}
use Rattle.mapf_tree.proofs.node.Chains.{taken_more, changed_sets-push}
use Rattle.mapf_tree.proofs.own_paths.path_cache.node_numbers.extend_sets.Goals as goal

pub loop-turn-preserved : goal.loop-turn-preserved
loop-turn-preserved c cs are =
    let front = take c.loop-turn.turn c.args.chain.now.changes in
    subst (AreSetsOf c.args.known.now c.extend_set.new.sets.items) (sym (ap (changed_sets cs) (taken_more c.args.chain.now.changes c.loop-turn.turn c.at.result.now c.at.ensures) ∙ changed_sets-push cs front c.at.result.now))
    (c.extend_set.ensures c.if-not-extend_set.false (changed_sets cs front) (c.loop-turn.invariant cs are))
