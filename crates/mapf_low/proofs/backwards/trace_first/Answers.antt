use Rattle.std.proofs.Common.{◌<◌, ◌≤◌, subst, sym, ap, ◌∙◌, arith}
use Rattle.mapf_low.specs.Backwards.Tracing.{DeadEnds, CanBe, IsLeft, AreDead, IsTraced}
use Rattle.mapf_low.specs.Lookup.{IfKnown}
use Rattle.mapf_low.specs.declared.lookup.Lookup.TheVariants.{Known}
use Rattle.mapf_low.specs.Query.{MayEnd}
use Rattle.mapf_low.proofs.backwards.BackwardCosts.{none_more, found_first, none_within}
use Rattle.mapf_low.proofs.backwards.OutOfReach.{can_left}
use Rattle.mapf_low.proofs.Rising.{not_true}
use Rattle.mapf_low.proofs.backwards.trace_first.Goals as goal
use Rattle.mapf_low.proofs.backwards.trace_first.Goals.{then-may_end+then-is_left+in_ok-trace+in-Known-None, else-may_end, else-may_end-via-then-may_end+else-is_left, else-may_end-via-else-may_end}

pub loop-end-init : goal.loop-end-init
loop-end-init c =
    record {
      dead = subst (AreDead c.args.query.now) (sym c.new-dead.ensures.states) (λ v t i. omega (arith, i.1));
      before = c.requires.before;
    }

pub returns-in-Known-Some : goal.returns-in-Known-Some
returns-in-Known-Some c =
    let query = c.args.query.now in
    let within : c.loop-end.end ≤ query.bound = omega arith in
    found_first query c.goal-goal.ensures.posed c.requires.earliest c.loop-end.end c.in-Known-Some.path within (c.may_end.ensures.0 c.if-may_end.true) c.loop-end.invariant.before
    (subst (λ a. IfKnown a (IsTraced query c.loop-end.end)) (c.in-Known-Some.is ∙ ap Known c.in-Known-Some.field-0-is) c.in_ok-trace.ensures.path)

pub loop-end-preserved : goal.loop-end-preserved
loop-end-preserved c =
    let query = c.args.query.now in
    elim c.if-may_end.branch [
      | then-may_end+then-is_left+in_ok-trace+in-Known-None w ↦ record {
        dead = subst (AreDead query) (ap (λ (d : DeadEnds). d.states) (sym w.dead-is)) w.in_ok-trace.ensures.dead;
        before = none_more query c.goal-goal.ensures.posed c.requires.earliest c.loop-end.end c.loop-end.invariant.before (λ l a. subst (λ a. IfKnown a (IsTraced query c.loop-end.end)) (w.in-Known-None.is ∙ ap Known w.in-Known-None.field-0-is) w.in_ok-trace.ensures.path a.0);
      }
      | else-may_end w ↦ record {
        dead = subst (AreDead query) (ap (λ (d : DeadEnds). d.states) (sym w.dead-is)) c.loop-end.invariant.dead;
        before = none_more query c.goal-goal.ensures.posed c.requires.earliest c.loop-end.end c.loop-end.invariant.before (λ l a. elim w.else-may_end.branch [
          | else-may_end-via-then-may_end+else-is_left x ↦ not_true x.is_left.result (IsLeft query c.loop-end.dead.states c.loop-end.end c.goal-goal.result) x.is_left.ensures x.if-is_left.false
              (can_left query c.loop-end.dead.states c.loop-end.end c.goal-goal.result l c.requires.earliest c.loop-end.invariant.dead (subst (CanBe query c.loop-end.end) (sym c.goal-goal.ensures.goal) a.0))
          | else-may_end-via-else-may_end x ↦ not_true c.may_end.result (MayEnd query c.loop-end.end) c.may_end.ensures x.if-may_end.false a.1
        ]);
      }
    ]

pub returns : goal.returns
returns c =
    let query = c.args.query.now in
    let past : query.bound < c.loop-end.end = omega arith in
    none_within query c.goal-goal.ensures.posed c.requires.earliest c.loop-end.end past c.loop-end.invariant.before
