use Rattle.std.proofs.Common.{All, map, sym, subst}
use Rattle.mapf_board.specs.Rounds.{IsNumbered}
use Rattle.mapf_board.proofs.RoundLists.{all_empty}
use Rattle.mapf_board.proofs.Sums.{All_first, All_rest}
use Rattle.mapf_board.proofs.round.run_round.Goals as goal

pub returns-then-is_empty : goal.returns-then-is_empty
returns-then-is_empty g c = all_empty g.O.Order.ordered c.args.orders.now _ c.in_ok-places.ensures.all c.in_ok-places.ensures.empty

pub loop-pairs-init : goal.loop-pairs-init
loop-pairs-init g c = record {
  made = subst (All (λ pairs. All (IsNumbered (map g.O.Order.ordered c.args.orders.now)) pairs.items)) (sym c.into_iter-pairs-iterator.ensures.into_iter_gives.0) c.in_ok-pairs-items.ensures;
  places = all_empty g.O.Order.ordered c.args.orders.now _ c.in_ok-places.ensures.all c.in_ok-places.ensures.empty;
}

pub put_all-requires-clause-pairs : goal.put_all-requires-clause-pairs
put_all-requires-clause-pairs g c κs within = All_first (λ pairs. All (IsNumbered (map g.O.Order.ordered c.args.orders.now)) pairs.items) _ _ _ c.in-Some.ensures.steps.0 c.loop-pairs.invariant.made

pub loop-pairs-preserved : goal.loop-pairs-preserved
loop-pairs-preserved g c = record {
  made = All_rest (λ pairs. All (IsNumbered (map g.O.Order.ordered c.args.orders.now)) pairs.items) _ _ _ c.in-Some.ensures.steps.0 c.loop-pairs.invariant.made;
  places = c.put_all.ensures;
}
