use Rattle.std.proofs.Common.{◌≡◌, ◌++◌, Some, map}
use Rattle.mapf_solve.proofs.rounds.root.all_of.Given as goal

abbrev pub invariant-loop-path : goal.invariant-loop-path
invariant-loop-path l = map Some l.paths.items ++ l.path-iterator.rest.items ≡ l.fn.found.items
