use Rattle.std.proofs.Common.{ap, arith}
use Rattle.mapf_optimum.specs.Together.{Agent}
use Rattle.mapf_optimum.proofs.AgentPlaces.{reached_waits, reached_more, reached_all}
use Rattle.mapf_optimum.proofs.together.agent.Agent.add_moves.Goals as goal

pub loop-to-init : goal.loop-to-init
loop-to-init c = record {
  keeps = c.in_ok-add_move.ensures.keeps;
  reached = reached_waits c.args.self.now c.args.time c.args.most c.args.from c.as_slice-to-items.result.now c.add_move.new.places.items c.in_ok-add_move.ensures.adds;
}

pub loop-to-preserved : goal.loop-to-preserved
loop-to-preserved c = record {
  keeps = λ x h. c.in_ok-add_move-2.ensures.keeps x (c.loop-to.invariant.keeps x h);
  reached = reached_more c.args.self.now c.args.time c.args.most c.args.from c.as_slice-to-items.result.now c.loop-to.places.items c.add_move-in-loop-to.new.places.items c.loop-to.to-index c.to-item.result
      c.loop-to-test.true c.to-item.is c.in_ok-add_move-2.ensures.keeps c.in_ok-add_move-2.ensures.adds c.loop-to.invariant.reached;
}

pub returns-after-loop-to-clause-adds : goal.returns-after-loop-to-clause-adds
returns-after-loop-to-clause-adds c =
    reached_all c.args.self.now c.args.time c.args.most c.args.from c.self.inside.map.now c.neighbours.result.items c.as_slice-to-items.result.now c.loop-to.places.items c.loop-to.to-index
    (ap (λ (a : Agent). a.grid) c.self.view_is) (c.is_free.ensures.0 c.if-is_free.true) c.neighbours.ensures.steps c.as_slice-to-items.ensures
    (omega (arith, c.loop-to.auto.to-index-end, c.loop-to-test.false)) c.loop-to.invariant.reached
