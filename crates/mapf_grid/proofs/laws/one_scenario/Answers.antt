use Rattle.mapf_grid.proofs.laws.Unique.{one_scenario}
use Rattle.mapf_grid.proofs.laws.one_scenario.Goals as goal

pub returns : goal.returns
returns c = one_scenario
