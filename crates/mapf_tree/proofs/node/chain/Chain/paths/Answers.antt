use Rattle.std.proofs.Common.{◌<◌, take, set, subst, sym, ap, ◌∙◌, length}
use Rattle.mapf_tree.specs.Prelude.{changed_plan}
use Rattle.mapf_tree.proofs.node.Chains.{all_at, taken_more, changed_plan-push, length-changed_plan}
use Rattle.mapf_tree.proofs.node.chain.Chain.paths.Goals as goal

pub change-requires : goal.change-requires
change-requires c =
    subst (λ n. c.at.result.now.agent < n) (sym (ap length c.loop-turn.invariant ∙ length-changed_plan c.args.self.now.root (take c.loop-turn.turn c.args.self.now.changes)))
    (all_at (λ x. x.agent < length c.args.self.now.root) c.args.self.now.changes c.loop-turn.turn c.at.result.now c.at.ensures c.requires)

pub loop-turn-preserved : goal.loop-turn-preserved
loop-turn-preserved c =
    c.change.ensures ∙ ap (λ plan. set plan c.at.result.now.agent c.at.result.now.path) c.loop-turn.invariant
    ∙ sym (changed_plan-push c.args.self.now.root (take c.loop-turn.turn c.args.self.now.changes) c.at.result.now)
    ∙ ap (changed_plan c.args.self.now.root) (sym (taken_more c.args.self.now.changes c.loop-turn.turn c.at.result.now c.at.ensures))
