use Rattle.std.proofs.Common.{◌-◌, All, map}
use Rattle.mapf_board.specs.Rounds.{IsNumbered}
use Rattle.mapf_board.specs.Seats.{IsSeatOf, count_of, drawn_by}
use Rattle.mapf_board.proofs.Ends.{next_of}
use Rattle.mapf_board.proofs.round.Round.do_orders.Given as goal

abbrev pub invariant-loop-n : goal.invariant-loop-n
invariant-loop-n g l = record {
  own : IsSeatOf l.self.tickets l.seat;
  pairs : All (IsNumbered (map g.O.Order.ordered l.self.orders.now)) l.pairs.items;
}

abbrev pub decreases-loop-n : goal.decreases-loop-n
decreases-loop-n g l = count_of l.self.tickets - next_of (drawn_by l.seat)
