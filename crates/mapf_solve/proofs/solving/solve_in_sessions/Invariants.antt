use Rattle.std.proofs.Common.{◌≡◌, Ok, None}
use Rattle.mapf_tree.proofs.high_level.Remaining.{remaining}
use Rattle.mapf_solve.proofs.Telling.{IsToldTo}
use Rattle.mapf_solve.proofs.solving.solve_in_sessions.Given as goal

abbrev pub invariant-loop-sessions : goal.invariant-loop-sessions
invariant-loop-sessions g l = (l.sessions.search.outcome ≡ Ok None) × IsToldTo g.W.Watch.told g.P.OneProblem.problem l.sessions.search.taken l.fn.watch l.watch

abbrev pub decreases-loop-sessions : goal.decreases-loop-sessions
decreases-loop-sessions g l = remaining g.P.OneProblem.problem l.sessions.search.last
