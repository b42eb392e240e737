use Rattle.std.proofs.Common.{◌∷◌, subst, sym}
use Rattle.mapf_bounds.specs.Groups.{Follow}
use Rattle.mapf_bounds.proofs.Groups.{put_follows}
use Rattle.mapf_bounds.proofs.node_groups.put.Goals as goal

pub returns-in-Ok : goal.returns-in-Ok
returns-in-Ok c = subst (Follow (c.args.group ∷ c.args.groups.now.items)) (sym c.in-Ok.ensures.items) (put_follows c.args.groups.now.items c.place_for-place.result c.args.group)
