use Rattle.mapf_solve.proofs.Answering.{found_is_any}
use Rattle.mapf_solve.proofs.wanted.solve_wanted.Goals as goal

pub returns-in-FirstSolution-clause-any : goal.returns-in-FirstSolution-clause-any
returns-in-FirstSolution-clause-any g c = found_is_any c.args.problem.now _ c.solve_in_sessions.ensures.answer
