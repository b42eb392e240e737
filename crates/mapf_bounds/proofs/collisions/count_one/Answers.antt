use Rattle.std.proofs.Common.{length}
use Rattle.mapf_bounds.proofs.Choosing.{one_chosen}
use Rattle.mapf_bounds.specs.Pairs.{IsCollidingPair}
use Rattle.mapf_bounds.proofs.collisions.count_one.Goals as goal

pub returns : goal.returns
returns g c =
    let plan = g.P.AgentPaths.paths c.args.paths.now in
    one_chosen (length plan) (IsCollidingPair c.args.rule plan) c.args.taken.now.items c.take.new.taken.items c.args.count
    (record { first = c.from.result; second = c.from-2.result }) (c.is_collision.ensures c.if-not-is_collision.false) (c.take.ensures.takes c.if-not-take.false) c.requires
