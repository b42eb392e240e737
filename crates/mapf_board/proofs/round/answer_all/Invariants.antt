use Rattle.std.proofs.Common.{map}
use Rattle.std.specs.Slice.Iter.{iter_rest}
use Rattle.mapf_board.specs.Rounds.{ArePlacesOf}
use Rattle.mapf_board.proofs.RoundLists.{AreAnswered}
use Rattle.mapf_board.proofs.round.answer_all.Given as goal

abbrev pub invariant-loop-order : goal.invariant-loop-order
invariant-loop-order g l = record {
  answered : AreAnswered g.W.Task.fits (map g.O.Order.ordered l.orders) (map g.O.Order.ordered (iter_rest l.order-iterator.a)) l.answers.items;
  places : ArePlacesOf (map g.O.Order.ordered (iter_rest l.order-iterator.a)) l.order-iterator.b.rest.items;
}
