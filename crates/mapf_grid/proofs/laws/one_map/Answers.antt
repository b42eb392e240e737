use Rattle.mapf_grid.proofs.laws.Unique.{one_map}
use Rattle.mapf_grid.proofs.laws.one_map.Goals as goal

pub returns : goal.returns
returns c = one_map
