use Rattle.std.proofs.Common.{◌≡◌, ◌+◌, Ok, subst, arith}
use Rattle.mapf_tree.specs.Prelude.{Finished, IsSearch, IsStep}
use Rattle.mapf_tree.proofs.high_level.GoingOn.{goes_on, taken_between, taken_at_end, ended}
use Rattle.mapf_tree.proofs.search.Search.go.Goals as goal

pub loop-taken-preserved : goal.loop-taken-preserved
loop-taken-preserved g c = (
  goes_on c.args.self.now.problem c.args.self.now.last c.loop-taken.self c.step.new.self c.loop-taken._taken c.in_ok-step.field-0 c.in_default.not-Finished c.loop-taken.invariant.0 c.in_ok-step.ensures.problem c.in_ok-step.ensures.search c.in_ok-step.ensures.step,
  c.in_ok-step.ensures.serves,
  omega (arith, c.loop-taken.invariant.2, c.in_ok-step.ensures.counted),
  λ e. absurd (let z : c.loop-taken._taken + 1 ≡ 0 = e in omega (arith, z)),
)

pub returns-clause-working : goal.returns-clause-working
returns-clause-working g c =
    let all : c.loop-taken._taken ≡ c.args.turns = omega arith in
    let now = c.loop-taken.invariant.0 in
    λ e. (now.going, taken_between c.args.self.now.problem c.args.self.now.last c.loop-taken.self c.loop-taken._taken c.args.turns now all)

pub returns-in-Finished-clause-within : goal.returns-in-Finished-clause-within
returns-in-Finished-clause-within g c e =
    let step : IsStep c.loop-taken.self c.step.new.self (Ok Finished) = subst (λ r. IsStep c.loop-taken.self c.step.new.self (Ok r)) c.in-Finished.is c.in_ok-step.ensures.step in
    taken_at_end c.args.self.now.problem c.args.self.now.last c.loop-taken.self c.step.new.self c.loop-taken._taken c.args.turns c.loop-taken.invariant.0 (omega arith) c.in_ok-step.ensures.problem step.1

pub returns-in-Finished-clause-ended : goal.returns-in-Finished-clause-ended
returns-in-Finished-clause-ended g c = λ given e. ended c.step.new.self given c.in_ok-step.ensures.search e

pub returns-in-Ok-Some-clause-ended : goal.returns-in-Ok-Some-clause-ended
returns-in-Ok-Some-clause-ended g c = λ given e. ended c.args.self.now given (subst IsSearch c.self.view_is c.self.invariant.0) e
