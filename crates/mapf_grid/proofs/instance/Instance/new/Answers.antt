use Rattle.std.proofs.Common.{subst}
use Rattle.mapf_grid.specs.Instance.{IsInstance, IsInstanceFault}
use Rattle.mapf_grid.proofs.instance.InstanceOnly.{IsSound-instance, one_instance, only_no_memory}
use Rattle.mapf_grid.proofs.instance.Instance.new.Goals as goal

pub invariant_of-result : goal.invariant_of-result
invariant_of-result c = IsSound-instance {rows = c.rows.result.now} {n = c.args.agents} c.in-Ok.ensures.sizes c.in-Ok.ensures.found

pub returns-in-Ok-clause-only : goal.returns-in-Ok-clause-only
returns-in-Ok-clause-only c =
    let found = subst (λ rows. IsInstance c.args.map rows c.args.agents (record { grid = c.args.map; starts = c.in-Ok.starts.items; goals = c.in-Ok.goals.items })) c.rows.ensures c.in-Ok.ensures.found in
    λ inst is. one_instance found is

pub returns-in-Err-clause-only : goal.returns-in-Err-clause-only
returns-in-Err-clause-only c =
    λ inst is. only_no_memory is c.in-Err.fault
    (λ other. subst (λ rows. IsInstanceFault c.args.map rows c.args.agents c.in-Err.fault) c.rows.ensures (c.in-Err.ensures.fault other))
