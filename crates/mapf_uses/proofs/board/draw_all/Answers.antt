use Rattle.mapf_board.specs.Seats.{count_of}
use Rattle.mapf_board.proofs.Ends.{less_to_come}
use Rattle.mapf_uses.proofs.board.draw_all.Goals as goal

pub loop-number-smaller : goal.loop-number-smaller
loop-number-smaller c = less_to_come (count_of c.args.tickets.now) _ _ c.in-Some.number c.in-Some.ensures.below c.in-Some.ensures.greatest c.in-Some.ensures.last
