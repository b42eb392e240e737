use Rattle.std.proofs.Common.{List, take}
use Rattle.mapf_tree.specs.Prelude.{Constraint, changed_sets, AreSetsOf}
use Rattle.mapf_tree.proofs.own_paths.path_cache.node_numbers.extend_sets.Given as goal

abbrev pub invariant-loop-turn : goal.invariant-loop-turn
invariant-loop-turn l = (cs : List (List Constraint)) → AreSetsOf l.known l.fn.sets.items cs → AreSetsOf l.known l.sets.items (changed_sets cs (take l.turn l.chain.changes))
