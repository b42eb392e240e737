use Rattle.mapf_tree.proofs.high_level.SearchLaws.{start_law}
use Rattle.mapf_tree.proofs.laws.search_starts.Goals as goal

pub returns : goal.returns
returns c = start_law
