use Rattle.std.proofs.Common.{arith, length, map, ap, subst}
use Rattle.std.specs.List.{AllZip}
use Rattle.mapf_solve.specs.Rounds.{FitsPath}
use Rattle.mapf_solve.proofs.AgentJobs.{found_paths}
use Rattle.mapf_solve.proofs.rounds.root.root_paths.Goals as goal

pub answer_all-requires-clause-orders : goal.answer_all-requires-clause-orders
answer_all-requires-clause-orders g c κs within = omega (arith, ap length c.deref.ensures.value, c.in_ok-jobs.ensures.count)

pub returns : goal.returns
returns g c =
    found_paths c.args.problem.now c.args.first c.in_ok-jobs.jobs.items c.in-Ok.found.items c.in_ok-jobs.ensures.agents
    (subst (λ l. AllZip FitsPath (map (λ j. j) l) c.in-Ok.found.items) c.deref.ensures.value c.in-Ok.ensures) (λ paths. paths.items) c.all_of.result c.all_of.ensures
