use Rattle.std.proofs.Common.{◌<◌, arith, length, refl}
use Rattle.mapf_optimum.specs.Groups.{alone}
use Rattle.mapf_optimum.proofs.Taking.{takes_read}
use Rattle.mapf_optimum.proofs.other_paths.accept.Goals as goal

pub returns : goal.returns
returns c =
    let inside : c.args.agent < length c.args.sets.now = omega (arith, c.if-agent-sets.false) in
    takes_read (alone c.args.part.now) c.args.sets.now c.args.paths.now.items c.args.agent c.args.path c.index-sets-agent.result c.requires.paths
    c.index-sets-agent.is inside (c.if-not-is_allowed.ensures refl)
