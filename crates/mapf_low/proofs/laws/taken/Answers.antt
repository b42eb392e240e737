use Rattle.mapf_low.proofs.laws.taken.Goals as goal

pub list_states-requires : goal.list_states-requires
list_states-requires c = rw (c.in_ok-query.ensures, c.table-table.ensures) c.requires.distances
