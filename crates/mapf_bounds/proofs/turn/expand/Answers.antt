use Rattle.std.proofs.Common.{List, subst₂, ap, ◌∙◌}
use Rattle.mapf_optimum.specs.declared.group_bound.GroupBound.{GroupBound}
use Rattle.mapf_tree.specs.declared.tree.side.Side.TheVariants.{Left, Right}
use Rattle.mapf_tree.specs.Problem.{Problem}
use Rattle.mapf_tree.specs.Family.{IsChildOf}
use Rattle.mapf_tree.specs.Nodes.{Node}
use Rattle.mapf_bounds.specs.Waiting.{WaitingNode, IsAdmittedChild}
use Rattle.mapf_bounds.proofs.turn.expand.Goals as goal

pub returns-clause-expands : goal.returns-clause-expands
returns-clause-expands c =
    let node = c.share_changes-node.ensures ∙ ap (λ (e : WaitingNode). e.node) c.entry.view_is in record {
      left = c.in_ok-left.left;
      right = c.in_ok-left.right;
      is_left = subst₂ (λ (p : Problem) (n : Node). IsChildOf p n Left c.in_ok-left.left) c.problem.ensures node c.in_ok-left.ensures.left;
      is_right = subst₂ (λ (p : Problem) (n : Node). IsChildOf p n Right c.in_ok-left.right) c.problem.ensures node c.in_ok-left.ensures.right;
      middle = c.admit_child.new.waiting.entries;
      puts_left = subst₂ (λ m (ps : List GroupBound). IsAdmittedChild m c.args.waiting.now.entries c.args.known ps c.in_ok-left.left c.admit_child.new.waiting.entries) c.most.ensures (ap (λ (e : WaitingNode). e.groups) c.entry.view_is) c.in_ok-admit_child.ensures;
      puts_right = subst₂ (λ m (ps : List GroupBound). IsAdmittedChild m c.admit_child.new.waiting.entries c.args.known ps c.in_ok-left.right c.admit_child-2.new.waiting.entries) c.most-2.ensures (ap (λ (e : WaitingNode). e.groups) c.entry.view_is) c.in_ok-admit_child-2.ensures;
    }
