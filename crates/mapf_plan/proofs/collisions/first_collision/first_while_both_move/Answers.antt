use Rattle.mapf_plan.proofs.collisions.Collisions.{still_apart}
use Rattle.mapf_plan.proofs.collisions.first_collision.first_while_both_move.Goals as goal

pub loop-start-preserved : goal.loop-start-preserved
loop-start-preserved c =
    still_apart c.args.rule c.args.one.now c.args.other.now c.loop-start.start _ c.loop-start.invariant (c.are_close_within.ensures c.if-are_close_within.false)
