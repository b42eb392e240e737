use Rattle.mapf_grid.proofs.laws.Unique.{one_scen_fault}
use Rattle.mapf_grid.proofs.laws.one_scen_fault.Goals as goal

pub returns : goal.returns
returns c = one_scen_fault
