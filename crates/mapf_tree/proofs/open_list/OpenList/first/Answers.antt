use Rattle.std.proofs.Common.{subst}
use Rattle.mapf_tree.specs.Prelude.{IsRising}
use Rattle.mapf_tree.proofs.open_list.Rising.{sorted_rises}
use Rattle.mapf_tree.proofs.open_list.OpenList.first.Goals as goal

pub returns-clause-rising : goal.returns-clause-rising
returns-clause-rising c = subst IsRising c.self.view_is (sorted_rises c.self.inside.nodes.keys c.self.invariant)
