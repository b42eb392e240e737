use Rattle.std.proofs.Common.{rules, ◌≡◌, ◌++◌, ◌∷◌, [], length}
use Rattle.mapf_optimum.specs.PlaceNumbers.{Known}
use Rattle.mapf_optimum.proofs.JointLists.{grows_pushed}
use Rattle.mapf_optimum.proofs.together.joint_places.JointPlaces.add.Goals as goal

pub returns : goal.returns
returns c =
    let new : Known = record { all = c.push-3.new.self.items; waiting = c.push.new.self.items } in
    let all : new.all ≡ c.args.self.now.all ++ c.args.joint.now ∷ [] = search rules in
    let waits : new.waiting ≡ c.args.self.now.waiting ++ length c.args.self.now.all ∷ [] = search rules in
    let added = grows_pushed c.args.self.now new c.args.joint.now all waits in
    record { grows = added.0; has = added.1 }
