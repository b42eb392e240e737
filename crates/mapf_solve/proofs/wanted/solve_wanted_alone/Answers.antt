use Rattle.mapf_solve.proofs.Answering.{found_is_any}
use Rattle.mapf_solve.proofs.wanted.solve_wanted_alone.Goals as goal

pub returns-in-FirstSolution-clause-any : goal.returns-in-FirstSolution-clause-any
returns-in-FirstSolution-clause-any c = found_is_any c.args.problem.now _ c.solve_by_bounds.ensures.answer
