use Rattle.mapf_tree.proofs.Prelude.{List, ◌<◌, [], take, take_all, replicate, get_or, subst, subst₂, sym, ap, ◌∙◌, arith, length-replicate}
use Rattle.mapf_tree.specs.Prelude.{Constraint, Changed, IsSameSet, changed_sets}
use Rattle.mapf_tree.proofs.ConstraintSets.{IsWith}
use Rattle.mapf_tree.proofs.node.Chains.{taken_more, sets_more}
use Rattle.mapf_tree.proofs.node.chain.Chain.constraints.Goals.{then-change-agent+in_ok-constraints, else-change-agent}
use Rattle.mapf_tree.proofs.node.chain.Chain.constraints.Goals as goal

pub loop-turn-preserved : goal.loop-turn-preserved
loop-turn-preserved c agents inside =
    let x = c.at-change.result.now in
    let whose = ap (λ (y : Changed). y.agent) c.change.view_is in
    let sets : List (List Constraint) = replicate agents [] in
    let more = sets_more sets (take c.loop-turn.turn c.args.self.now.changes) x c.args.agent c.loop-turn.constraints c.if-change-agent.constraints
    (subst (λ n. c.args.agent < n) (sym (length-replicate agents [])) inside) (c.loop-turn.invariant agents inside) in
    subst (λ xs. IsSameSet c.if-change-agent.constraints (get_or (changed_sets sets xs) c.args.agent [])) (sym (taken_more c.args.self.now.changes c.loop-turn.turn x c.at-change.ensures))
    (elim c.if-change-agent.branch [
      | then-change-agent+in_ok-constraints w ↦ more (λ _. subst₂ (λ k set. IsWith k c.loop-turn.constraints set) (ap (λ (y : Changed). y.constraint) c.change.view_is) (sym w.constraints-is) w.in_ok-constraints.ensures)
          (λ n. absurd (n (sym whose ∙ w.if-change-agent.true)))
      | else-change-agent w ↦ more (λ e. absurd (w.if-change-agent.false (whose ∙ e))) (λ _. w.constraints-is)
    ])

pub returns : goal.returns
returns c agents inside =
    subst (λ xs. IsSameSet c.loop-turn.constraints (get_or (changed_sets (replicate agents []) xs) c.args.agent [])) (take_all c.loop-turn.turn c.args.self.now.changes (omega arith)) (c.loop-turn.invariant agents inside)
