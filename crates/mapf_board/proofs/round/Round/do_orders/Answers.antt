use Rattle.std.proofs.Common.{arith, map}
use Rattle.mapf_board.specs.Rounds.{IsNumbered}
use Rattle.mapf_board.specs.Seats.{count_of}
use Rattle.mapf_board.proofs.Ends.{less_to_come}
use Rattle.mapf_board.proofs.RoundLists.{All_if_more, made_at}
use Rattle.mapf_board.proofs.round.Round.do_orders.Goals as goal

pub loop-n-smaller-in-Ok-do_order : goal.loop-n-smaller-in-Ok-do_order
loop-n-smaller-in-Ok-do_order g c = less_to_come (count_of c.args.self.now.tickets) _ _ c.in-Some.n c.in-Some.ensures.below c.in-Some.ensures.greatest c.in-Some.ensures.last

pub loop-n-preserved-in-Ok-do_order : goal.loop-n-preserved-in-Ok-do_order
loop-n-preserved-in-Ok-do_order g c = record {
  own = c.draw.ensures.seat;
  pairs = All_if_more (IsNumbered (map g.O.Order.ordered c.args.self.now.orders.now)) _ _ _ _ c.push.ensures.items c.loop-n.invariant.pairs
      (made_at g.O.Order.ordered c.args.self.now.orders.now c.in-Some.n c.index-self-n.result c.in-Ok-do_order.pair.0 (omega (arith, c.in-Some.ensures.below, c.args.self.now.count)) c.in-Ok-do_order.ensures);
}

pub loop-n-smaller-in-Ok-do_order-2 : goal.loop-n-smaller-in-Ok-do_order-2
loop-n-smaller-in-Ok-do_order-2 g c = less_to_come (count_of c.args.self.now.tickets) _ _ c.in-Some.n c.in-Some.ensures.below c.in-Some.ensures.greatest c.in-Some.ensures.last

pub loop-n-preserved-in-Ok-do_order-2 : goal.loop-n-preserved-in-Ok-do_order-2
loop-n-preserved-in-Ok-do_order-2 g c = record {
  own = c.draw.ensures.seat;
  pairs = All_if_more (IsNumbered (map g.O.Order.ordered c.args.self.now.orders.now)) _ _ _ _ c.push.ensures.items c.loop-n.invariant.pairs
      (made_at g.O.Order.ordered c.args.self.now.orders.now c.in-Some.n c.index-self-n.result c.in-Ok-do_order.pair.0 (omega (arith, c.in-Some.ensures.below, c.args.self.now.count)) c.in-Ok-do_order.ensures);
}

pub loop-n-smaller : goal.loop-n-smaller
loop-n-smaller g c = less_to_come (count_of c.args.self.now.tickets) _ _ c.in-Some.n c.in-Some.ensures.below c.in-Some.ensures.greatest c.in-Some.ensures.last
