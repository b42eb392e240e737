use Rattle.std.proofs.Common.{◌≡◌}
use Rattle.mapf_tree.specs.Prelude.{IsSearch}
use Rattle.mapf_tree.proofs.high_level.Remaining.{remaining}
use Rattle.mapf_tree.proofs.search.Search.finish.Given as goal

abbrev pub invariant-loop-search : goal.invariant-loop-search
invariant-loop-search g l = (l.search.problem ≡ l.fn.self.problem) × IsSearch l.search × g.C.Children.serves l.children l.search.problem

abbrev pub decreases-loop-search : goal.decreases-loop-search
decreases-loop-search g l = remaining l.search.problem l.search.last
