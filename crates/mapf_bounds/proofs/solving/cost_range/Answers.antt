use Rattle.std.proofs.Common.{Some, subst, sym}
use Rattle.mapf_optimum.specs.AnyAnswer.{IsAnyAnswerUpTo}
use Rattle.mapf_bounds.specs.Bounds.{IsRange}
use Rattle.mapf_bounds.proofs.solving.cost_range.Goals as goal

pub returns-clause-range : goal.returns-clause-range
returns-clause-range c =
    subst (λ p. IsRange p c.range_of.result) c.problem-problem.ensures
    (c.range_of.ensures (Some 300) (subst (λ p. IsAnyAnswerUpTo (Some 300) p c.in_ok-given.given) (sym c.problem-problem.ensures) c.in_ok-given.ensures.answer))
