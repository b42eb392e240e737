use Rattle.mapf_grid.proofs.Asked.{instance_fault_of_files}
use Rattle.mapf_grid.proofs.files.instance_of.Goals as goal

pub returns-clause-fault : goal.returns-clause-fault
returns-clause-fault c =
    instance_fault_of_files c.args.map.now c.args.scen.now c.args.agents c.in_ok-map.map c.in_ok-scenario.scenario c.in-Err.fault c.from.result
    c.in_ok-map.ensures.read c.in_ok-scenario.ensures.found c.in-Err.ensures.fault c.from.ensures
