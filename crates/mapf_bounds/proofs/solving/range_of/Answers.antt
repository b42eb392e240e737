use Rattle.mapf_bounds.proofs.Covers.{optimum_is_range}
use Rattle.mapf_bounds.proofs.solving.range_of.Goals as goal

pub returns-in-Plan : goal.returns-in-Plan
returns-in-Plan c = λ nodes any. optimum_is_range c.args.problem.now nodes c.args.given.now c.in-Plan.plan c.in-Plan.stated c.in-Plan.is any
