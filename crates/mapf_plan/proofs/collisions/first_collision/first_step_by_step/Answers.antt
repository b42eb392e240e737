use Rattle.std.proofs.Common.{◌≡◌, ◌+◌, ◌-◌, ap, ◌∙◌, arith}
use borrow.Author.Count.{below_more}
use Rattle.mapf_plan.specs.Path.{at}
use Rattle.mapf_plan.specs.Collisions.{DoCollide}
use Rattle.mapf_plan.proofs.collisions.Collisions.{as_steps, as_collision}
use Rattle.mapf_plan.proofs.collisions.first_collision.first_step_by_step.Goals as goal

pub loop-time-preserved : goal.loop-time-preserved
loop-time-preserved c =
    let rule = c.args.rule in let one = c.args.one.now in let other = c.args.other.now in let t = c.loop-time.time in
    let now : t ≡ t + 1 - 1 = omega arith in (
      below_more (λ s. ¬ DoCollide rule one other s) t c.loop-time.invariant.0
          (λ does. c.do_steps_collide.ensures.apart c.if-do_steps_collide.false
          (as_steps rule one other t _ _ _ _ c.loop-time.invariant.1 c.at-one_is.ensures c.loop-time.invariant.2 c.at-other_is.ensures does)),
      c.at-one_is.ensures ∙ ap (λ k. at one k) now,
      c.at-other_is.ensures ∙ ap (λ k. at other k) now,
    )

pub returns-then-do_steps_collide : goal.returns-then-do_steps_collide
returns-then-do_steps_collide c = (
  c.loop-time-test.true,
  as_collision c.args.rule c.args.one.now c.args.other.now c.loop-time.time _ _ _ _ c.loop-time.invariant.1 c.at-one_is.ensures c.loop-time.invariant.2 c.at-other_is.ensures
      (c.do_steps_collide.ensures.collide c.if-do_steps_collide.true),
  c.loop-time.invariant.0,
)
