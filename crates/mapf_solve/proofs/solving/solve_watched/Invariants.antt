use Rattle.mapf_solve.proofs.solving.solve_watched.Given as goal

abbrev pub ghosts-solve_in_sessions : goal.ghosts-solve_in_sessions
ghosts-solve_in_sessions g a = record { problem = a.problem.now }
