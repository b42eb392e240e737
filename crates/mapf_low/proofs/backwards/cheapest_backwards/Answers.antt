use Rattle.std.proofs.Common.{subst, sym}
use Rattle.mapf_low.specs.Backwards.Earliest.{AreEarliest, HasEarliest}
use Rattle.mapf_low.specs.Query.{query_of}
use Rattle.mapf_low.proofs.backwards.Advancing.{earliest_by}
use Rattle.mapf_low.proofs.backwards.OutOfReach.{distances_earliest}
use Rattle.mapf_low.proofs.backwards.cheapest_backwards.Goals as goal

pub own_path-requires-clause-earliest : goal.own_path-requires-clause-earliest
own_path-requires-clause-earliest c =
    let query = query_of c.args.map.now c.table-table.result.now c.args.constraints.now c.args.start c.args.goal c.args.bound in
    subst HasEarliest (sym c.in_ok-by_distance.ensures) (
    subst (AreEarliest query) (sym c.table-table.ensures)
    (distances_earliest query c.args.by.now.from_start.now c.width-width.ensures.sizes c.requires.start c.requires.from_start))

pub own_path-requires-2-clause-earliest : goal.own_path-requires-2-clause-earliest
own_path-requires-2-clause-earliest c =
    let arrivals = c.in_ok-arrivals.arrivals in
    let earliest : AreEarliest c.in_ok-by_distance.by_distance arrivals = c.in_ok-arrivals.ensures in
    subst HasEarliest (sym c.in_ok-by_arrival.ensures) (
    earliest_by c.args.map.now c.args.constraints.now c.args.start c.args.goal c.args.bound c.table-table.result.now arrivals arrivals
    (subst (λ q. AreEarliest q arrivals) c.in_ok-by_distance.ensures earliest))
