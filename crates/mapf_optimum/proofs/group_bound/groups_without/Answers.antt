use Rattle.std.proofs.Common.{Vec, subst, sym, ◌∙◌}
use Rattle.std.specs.declared.alloc.Global.{Global}
use Rattle.mapf_optimum.specs.declared.group_bound.GroupBound.{GroupBound}
use Rattle.mapf_optimum.specs.Groups.{AreOf}
use Rattle.mapf_optimum.proofs.ChosenGroups.{one_more_of}
use Rattle.mapf_optimum.proofs.group_bound.groups_without.Goals.{then-not-is_within+in_ok-of+in_ok-push, else-not-is_within+else-len-agents}
use Rattle.mapf_optimum.proofs.group_bound.groups_without.Goals as goal

pub loop-group-preserved : goal.loop-group-preserved
loop-group-preserved c = elim c.if-not-is_within.branch [
  | then-not-is_within+in_ok-of+in_ok-push w ↦
      subst (λ (t : Vec GroupBound Global). AreOf c.args.groups.now t.items) (sym w.kept-is)
      (subst (AreOf c.args.groups.now) (sym w.in_ok-push.ensures.items)
      (one_more_of c.args.groups.now c.loop-group.kept.items w.in_ok-of.field-0 c.group-item.result c.loop-group.invariant
      (c.loop-group.group-index, c.loop-group-test.true, sym c.group-item.is) (sym (w.in_ok-of.ensures.agents ∙ w.deref-then-not-is_within.ensures.value)) (sym w.in_ok-of.ensures.least)))
  | else-not-is_within+else-len-agents w ↦ subst (λ (t : Vec GroupBound Global). AreOf c.args.groups.now t.items) (sym w.kept-is) c.loop-group.invariant
]
