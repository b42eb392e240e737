use Rattle.std.proofs.Common.{arith, length, map, ap, subst}
use Rattle.std.specs.List.{AllZip}
use Rattle.mapf_solve.specs.Rounds.{FitsGoal}
use Rattle.mapf_solve.proofs.AgentJobs.{goal_tables}
use Rattle.mapf_solve.proofs.rounds.goals.tables.Goals as goal

pub answer_all-requires-clause-orders : goal.answer_all-requires-clause-orders
answer_all-requires-clause-orders g c κs within = omega (arith, ap length c.deref.ensures.value, c.in_ok-jobs.ensures.count)

pub returns : goal.returns
returns g c =
    goal_tables c.args.instance.now c.in_ok-jobs.jobs.items c.in-Ok.tables.items c.in_ok-jobs.ensures.goals
    (subst (λ l. AllZip FitsGoal (map (λ j. j) l) c.in-Ok.tables.items) c.deref.ensures.value c.in-Ok.ensures)
