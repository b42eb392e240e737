use Rattle.std.proofs.Common.{All, map}
use Rattle.mapf_board.specs.Rounds.{ArePlacesOf, IsNumbered}
use Rattle.mapf_board.proofs.round.put_all.Given as goal

abbrev pub invariant-loop-n : goal.invariant-loop-n
invariant-loop-n g l = record {
  pairs : All (IsNumbered (map g.O.Order.ordered l.orders)) l.n-iterator.rest.items;
  places : ArePlacesOf (map g.O.Order.ordered l.orders) l.places.items;
}
