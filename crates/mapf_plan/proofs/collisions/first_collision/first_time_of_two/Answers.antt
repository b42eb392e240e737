use Rattle.std.proofs.Common.{arith}
use Rattle.std.proofs.lemmas.Grind.{common_steps}
use Rattle.mapf_plan.proofs.collisions.Collisions.{found_in_all}
use Rattle.mapf_plan.proofs.collisions.first_collision.first_time_of_two.Goals as goal

pub returns : goal.returns
returns c =
    found_in_all c.args.rule c.args.one.now c.args.other.now c.max-longer.result c.first_collision.result (grind (arith, common_steps)) (grind (arith, common_steps)) c.first_collision.ensures
