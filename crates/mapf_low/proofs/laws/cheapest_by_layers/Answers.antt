use Rattle.mapf_low.proofs.laws.cheapest_by_layers.Goals as goal

pub search_by_layers-requires : goal.search_by_layers-requires
search_by_layers-requires c = rw (c.in_ok-query.ensures, c.table-table.ensures) c.requires.distances
