use Rattle.std.proofs.Common.{◌-◌}
use Rattle.mapf_board.specs.Seats.{IsSeatOf, count_of, drawn_by}
use Rattle.mapf_board.proofs.Ends.{next_of}
use Rattle.mapf_uses.proofs.board.draw_all.Given as goal

abbrev pub invariant-loop-number : goal.invariant-loop-number
invariant-loop-number l = record {
  own : IsSeatOf l.tickets l.seat;
}

abbrev pub decreases-loop-number : goal.decreases-loop-number
decreases-loop-number l = count_of l.tickets - next_of (drawn_by l.seat)
