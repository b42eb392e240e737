use Rattle.mapf_tree.proofs.high_level.SearchLaws.{next_law}
use Rattle.mapf_tree.proofs.laws.takes_next.Goals as goal

pub returns : goal.returns
returns c = next_law
