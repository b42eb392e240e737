use Rattle.std.proofs.Common.{length, []}
use Rattle.mapf_tree.specs.LowerBound.{IsBelowAll}
use Rattle.mapf_tree.specs.Problem.{Problem}
use Rattle.mapf_bounds.specs.Waiting.{IsMoving}
use Rattle.mapf_bounds.proofs.solving.admit_all.Given as goal

abbrev pub invariant-nodes : goal.invariant-nodes
invariant-nodes l = (problem : Problem) → IsBelowAll problem l.range.least → IsMoving problem l.range.most l.fn.open_list [] → IsMoving problem l.range.most l.open_list l.waiting.entries

abbrev pub decreases-nodes : goal.decreases-nodes
decreases-nodes l = length l.open_list
