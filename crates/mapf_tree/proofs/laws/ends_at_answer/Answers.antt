use Rattle.mapf_tree.proofs.high_level.SearchLaws.{end_law}
use Rattle.mapf_tree.proofs.laws.ends_at_answer.Goals as goal

pub returns : goal.returns
returns c = end_law
