use Rattle.mapf_low.proofs.forwards.cheapest.Goals as goal

pub own_path_of-requires : goal.own_path_of-requires
own_path_of-requires c = rw (c.in_ok-query.ensures, c.table-table.ensures) c.requires.distances
