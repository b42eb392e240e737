use Rattle.std.proofs.Common.{arith}
use Rattle.mapf_optimum.proofs.ChosenGroups.{chosen_below, none_chosen}
use Rattle.mapf_optimum.proofs.group_bound.least_of_groups.Goals as goal

pub add_groups-sum-requires-clause-taken : goal.add_groups-sum-requires-clause-taken
add_groups-sum-requires-clause-taken c =
    none_chosen c.args.costs.now c.args.groups.now c.in_ok-taken.taken.items (omega (arith, c.in_ok-taken.ensures.len, c.in_ok-taken.taken.ok))

pub returns : goal.returns
returns c = chosen_below _ _ _ _ (c.add_alone.ensures c.args.groups.now c.add_groups-sum.ensures)
