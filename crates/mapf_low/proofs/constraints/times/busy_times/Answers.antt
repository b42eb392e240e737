use Rattle.std.proofs.Common.{◌≡◌, length, subst, arith}
use Rattle.mapf_low.specs.Times.{AreMarked}
use Rattle.mapf_low.proofs.constraints.Marked.{marked_more, marked_all}
use Rattle.mapf_low.proofs.constraints.times.busy_times.Goals as goal

pub loop-constraint-preserved : goal.loop-constraint-preserved
loop-constraint-preserved c =
    marked_more c.as_slice-constraint-items.result.now c.loop-constraint.constraint-index c.constraint-item.result c.time.result c.args.bound c.loop-constraint.marks.items c.mark.new.marks.items
    c.loop-constraint-test.true c.constraint-item.is c.time.ensures c.loop-constraint.invariant c.in_ok-mark.ensures

pub returns : goal.returns
returns c =
    let whole : c.loop-constraint.constraint-index ≡ length c.as_slice-constraint-items.result.now = omega arith in
    subst (λ cs. AreMarked cs c.args.bound c.loop-constraint.marks.items) c.as_slice-constraint-items.ensures
    (marked_all c.as_slice-constraint-items.result.now c.loop-constraint.constraint-index c.args.bound c.loop-constraint.marks.items whole c.loop-constraint.invariant)
