use Rattle.mapf_grid.proofs.laws.Unique.{scenario_or_fault}
use Rattle.mapf_grid.proofs.laws.scenario_or_fault.Goals as goal

pub returns : goal.returns
returns c = scenario_or_fault
