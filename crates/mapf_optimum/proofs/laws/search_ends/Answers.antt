use Rattle.mapf_optimum.proofs.Work.{search_ends}
use Rattle.mapf_optimum.proofs.laws.search_ends.Goals as goal

pub returns : goal.returns
returns c = search_ends
