use Rattle.std.proofs.Common.{◌+◌, arith}
use Rattle.mapf_plan.specs.FirstConflict.{IsConflictOfPair}
use Rattle.mapf_plan.proofs.collisions.Steps.{found_first, some_before}
use Rattle.mapf_plan.proofs.pair_conflicts.earlier_of_two.Goals as goal

pub returns-clause-first : goal.returns-clause-first
returns-clause-first g c d is of_first of_second before =
    let rule = c.args.rule in let plan = g.P.AgentPaths.paths c.args.plan.now in let i = c.args.first in let j = c.args.second in let t = c.args.time in
    let of_pair : IsConflictOfPair rule plan i j d = (is.0, of_first, of_second) in
    found_first rule plan i j (t + 1) c.pair_at.result d c.pair_at.ensures.conflict of_pair
    (some_before rule plan i j (t + 1) d of_pair (omega (arith, is.1))) (c.earlier.ensures.found d before)
