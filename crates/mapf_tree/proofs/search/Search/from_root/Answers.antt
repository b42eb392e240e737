use Rattle.mapf_tree.proofs.high_level.Expansions.{root_waits, counted_first}
use Rattle.mapf_tree.proofs.search.Search.from_root.Goals as goal

pub invariant_of-result : goal.invariant_of-result
invariant_of-result c = (root_waits c.args.problem.now c.args.first c.new-waiting.result c.add_if_some.new.waiting c.new-waiting.ensures c.requires c.in_ok-add_if_some.ensures, counted_first c.args.problem.now)

pub returns-clause-search : goal.returns-clause-search
returns-clause-search c = root_waits c.args.problem.now c.args.first c.new-waiting.result c.add_if_some.new.waiting c.new-waiting.ensures c.requires c.in_ok-add_if_some.ensures
