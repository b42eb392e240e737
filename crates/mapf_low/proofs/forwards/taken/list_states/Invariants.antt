use Rattle.mapf_low.proofs.forwards.Taking.{ListsFirst}
use Rattle.mapf_low.proofs.forwards.taken.list_states.Given as goal

abbrev pub invariant-loop-more : goal.invariant-loop-more
invariant-loop-more l = ListsFirst l.query.table l.searched.nearest l.searched.levels.items l.more l.states.items
