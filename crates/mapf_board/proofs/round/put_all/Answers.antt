use Rattle.std.proofs.Common.{arith, map}
use Rattle.std.proofs.lemmas.Option.{slice_get_within}
use Rattle.std.proofs.lemmas.Slice.Zip.{AllZip-long}
use Rattle.mapf_board.specs.Rounds.{IsNumbered}
use Rattle.mapf_board.proofs.RoundLists.{put_at}
use Rattle.mapf_board.proofs.Sums.{All_first, All_rest}
use Rattle.mapf_board.proofs.round.put_all.Goals as goal

pub index_mut-requires : goal.index_mut-requires
index_mut-requires g c =
    let jobs = map g.O.Order.ordered c.args.orders.now in
    let at = All_first (IsNumbered jobs) _ _ _ c.in-Some.ensures.steps.0 c.loop-n.invariant.pairs in
    omega (arith, slice_get_within jobs c.in-Some.n c.in-Some.pair.0 at, AllZip-long _ jobs c.loop-n.places.items c.loop-n.invariant.places, c.loop-n.places.ok.0)

pub loop-n-preserved-in-Some : goal.loop-n-preserved-in-Some
loop-n-preserved-in-Some g c =
    let P = IsNumbered (map g.O.Order.ordered c.args.orders.now) in
    record {
      pairs = All_rest P _ _ _ c.in-Some.ensures.steps.0 c.loop-n.invariant.pairs;
      places = put_at _ _ _ c.in-Some.pair (All_first P _ _ _ c.in-Some.ensures.steps.0 c.loop-n.invariant.pairs) c.loop-n.invariant.places;
    }

pub loop-n-preserved : goal.loop-n-preserved
loop-n-preserved g c =
    let P = IsNumbered (map g.O.Order.ordered c.args.orders.now) in
    record {
      pairs = All_rest P _ _ _ c.in-Some.ensures.steps.0 c.loop-n.invariant.pairs;
      places = put_at _ _ _ c.in-Some.pair (All_first P _ _ _ c.in-Some.ensures.steps.0 c.loop-n.invariant.pairs) c.loop-n.invariant.places;
    }
