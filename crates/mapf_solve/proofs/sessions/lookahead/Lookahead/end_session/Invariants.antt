use Rattle.std.proofs.Common.{All}
use Rattle.mapf_solve.specs.Sessions.{IsGivenOf}
use Rattle.mapf_solve.proofs.sessions.lookahead.Lookahead.end_session.Given as goal

abbrev pub invariant-loop-slot : goal.invariant-loop-slot
invariant-loop-slot g l = All (λ x. IsGivenOf g.P.OneProblem.problem x.1) l._slot-iterator.rest.items
