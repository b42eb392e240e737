use Rattle.std.proofs.Common.{All, map}
use Rattle.mapf_board.specs.Rounds.{ArePlacesOf, IsNumbered}
use Rattle.mapf_board.proofs.round.run_round.Given as goal

abbrev pub invariant-loop-pairs : goal.invariant-loop-pairs
invariant-loop-pairs g l = record {
  made : All (λ pairs. All (IsNumbered (map g.O.Order.ordered l.orders)) pairs.items) l.pairs-iterator.rest.items;
  places : ArePlacesOf (map g.O.Order.ordered l.orders) l.places.items;
}
