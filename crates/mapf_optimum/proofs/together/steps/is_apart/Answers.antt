use Rattle.std.proofs.Common.{sym, arith}
use Rattle.mapf_optimum.specs.declared.together.place.Place.{Place}
use Rattle.mapf_optimum.proofs.JointSums.{goes_apart, number_at_place}
use Rattle.mapf_optimum.proofs.together.steps.is_apart.Goals as goal

pub returns-then-do_steps_collide : goal.returns-then-do_steps_collide
returns-then-do_steps_collide c = λ plan count total time are inside before now stands.
    absurd (goes_apart c.args.rule count total time c.args.agent c.loop-other.other plan c.args.from.now c.args.to.now _ _ _ _ are c.loop-other-test.true inside before now (sym stands.on)
    (number_at_place (λ (x : Place). x.cell) c.args.from.now c.loop-other.other c.index-from-other.result (omega (arith, c.type_inv.from, c.loop-other-test.true, c.requires)))
    (number_at_place (λ (x : Place). x.cell) c.args.to.now c.loop-other.other c.index-to-other.result (omega (arith, c.type_inv.to, c.loop-other-test.true, c.requires)))
    (number_at_place (λ (x : Place). x.cell) c.args.from.now c.args.agent c.index-from-agent.result (omega (arith, c.type_inv.from, c.requires)))
    (c.do_steps_collide.ensures.collide c.if-do_steps_collide.true))
