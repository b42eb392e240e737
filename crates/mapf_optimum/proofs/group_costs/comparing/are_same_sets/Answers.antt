use Rattle.std.proofs.Common.{[], ext_get_or, arith}
use Rattle.mapf_optimum.proofs.group_costs.comparing.are_same_sets.Goals as goal

pub returns : goal.returns
returns c = λ t. ext_get_or [] c.args.one.now c.args.other.now c.if-one-other.false (λ k h. c.loop-place.invariant k (omega (arith, h, c.loop-place-test.false)))
