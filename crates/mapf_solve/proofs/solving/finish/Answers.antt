use Rattle.mapf_solve.proofs.Telling.{told_on}
use Rattle.mapf_solve.proofs.solving.finish.Goals as goal

pub returns-clause-told : goal.returns-clause-told
returns-clause-told g c = told_on g.W.Watch.told g.P.OneProblem.problem _ _ _ _ c.finish_by_bounds.result c.args.sessions.of_problem _ c.finish_by_bounds.ensures.told
