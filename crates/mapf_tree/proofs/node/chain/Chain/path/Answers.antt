use Rattle.std.proofs.Common.{◌≡◌, take, subst, sym, ap, ◌∙◌}
use Rattle.mapf_tree.specs.Prelude.{path_of, Changed, changed_plan}
use Rattle.mapf_tree.proofs.node.Chains.{taken_more, path_more}
use Rattle.mapf_tree.proofs.node.chain.Chain.path.Goals.{then-change-agent, else-change-agent}
use Rattle.mapf_tree.proofs.node.chain.Chain.path.Goals as goal

pub loop-turn-preserved : goal.loop-turn-preserved
loop-turn-preserved c =
    let x = c.at-change.result.now in
    let whose = ap (λ (y : Changed). y.agent) c.change.view_is in
    let more = path_more c.args.self.now.root (take c.loop-turn.turn c.args.self.now.changes) x c.args.agent c.loop-turn.path.now c.if-change-agent.path.now c.requires c.loop-turn.invariant in
    subst (λ xs. c.if-change-agent.path.now ≡ path_of (changed_plan c.args.self.now.root xs) c.args.agent) (sym (taken_more c.args.self.now.changes c.loop-turn.turn x c.at-change.ensures))
    (elim c.if-change-agent.branch [
      | then-change-agent w ↦ more (λ _. ap (λ p. p.now) w.path-is ∙ w.deref-path.ensures ∙ ap (λ (y : Changed). y.path) c.change.view_is) (λ n. absurd (n (sym whose ∙ w.if-change-agent.true)))
      | else-change-agent w ↦ more (λ e. absurd (w.if-change-agent.false (whose ∙ e))) (λ _. ap (λ p. p.now) w.path-is)
    ])
