use Rattle.mapf_tree.proofs.high_level.GoingOn.{best_out}
use Rattle.mapf_solve.proofs.solving.solve_watched.Goals as goal

pub returns-clause-best : goal.returns-clause-best
returns-clause-best g c = best_out c.args.problem.now c.solve_in_sessions.result c.solve_in_sessions.ensures.answer
