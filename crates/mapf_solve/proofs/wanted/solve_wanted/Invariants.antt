use Rattle.mapf_solve.proofs.wanted.solve_wanted.Given as goal

abbrev pub ghosts-solve_in_sessions : goal.ghosts-solve_in_sessions
ghosts-solve_in_sessions g a = record { problem = a.problem.now }
