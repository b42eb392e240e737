use Rattle.std.proofs.Common.{subst, sym, ◌∙◌}
use Rattle.mapf_optimum.specs.Groups.{AreOf}
use Rattle.mapf_optimum.proofs.ChosenGroups.{one_more_of}
use Rattle.mapf_optimum.proofs.group_bound.unsolved_with.Goals as goal

pub loop-group-preserved : goal.loop-group-preserved
loop-group-preserved c =
    subst (AreOf c.args.groups.now) (sym c.in_ok-push.ensures.items)
    (one_more_of c.args.groups.now c.loop-group.kept.items c.in_ok-of.field-0 c.group-item.result c.loop-group.invariant
    (c.loop-group.group-index, c.loop-group-test.true, sym c.group-item.is) (sym (c.in_ok-of.ensures.agents ∙ c.deref-in-loop-group.ensures.value)) (sym c.in_ok-of.ensures.least))
