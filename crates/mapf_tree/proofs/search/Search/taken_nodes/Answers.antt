use Rattle.std.proofs.Common.{subst}
use Rattle.mapf_tree.specs.Prelude.{Searched, CountsTaken}
use Rattle.mapf_tree.proofs.search.Search.taken_nodes.Goals as goal

pub returns-clause-taken : goal.returns-clause-taken
returns-clause-taken c = subst (λ (s : Searched). CountsTaken s.problem s.last c.self.inside.taken) c.self.view_is c.self.invariant.1.0
