use Rattle.std.proofs.Common.{subst}
use Rattle.mapf_board.proofs.Sums.{All_first, All_rest}
use Rattle.mapf_solve.specs.Sessions.{IsGivenOf}
use Rattle.mapf_solve.proofs.sessions.lookahead.Lookahead.end_session.Goals as goal

pub learn-requires : goal.learn-requires
learn-requires g c =
    subst (IsGivenOf g.P.OneProblem.problem) c.in-Answer.is (All_first (λ x. IsGivenOf g.P.OneProblem.problem x.1) _ _ _ c.in-Some.ensures.steps.0 c.loop-slot.invariant)

pub loop-slot-preserved-in-Answer : goal.loop-slot-preserved-in-Answer
loop-slot-preserved-in-Answer g c = All_rest (λ x. IsGivenOf g.P.OneProblem.problem x.1) _ _ _ c.in-Some.ensures.steps.0 c.loop-slot.invariant

pub loop-slot-preserved : goal.loop-slot-preserved
loop-slot-preserved g c = All_rest (λ x. IsGivenOf g.P.OneProblem.problem x.1) _ _ _ c.in-Some.ensures.steps.0 c.loop-slot.invariant
