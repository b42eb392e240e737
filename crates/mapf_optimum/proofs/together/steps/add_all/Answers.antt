use Rattle.std.proofs.Common.{[], length, get_or, ◌≡◌, arith}
use Rattle.std.proofs.lemmas.List.{get_or_default}
use Rattle.mapf_optimum.specs.PlaceNumbers.{IsKnown}
use Rattle.mapf_optimum.proofs.JointLists.{grows_none, grows_both, still_known}
use Rattle.mapf_optimum.proofs.JointSteps.{each_none, each_more, each_all}
use Rattle.mapf_optimum.proofs.together.steps.add_all.Goals as goal

pub loop-joint-init : goal.loop-joint-init
loop-joint-init c = record { grows = grows_none c.args.known.now; has = each_none (IsKnown c.args.known.now) }

pub loop-joint-preserved : goal.loop-joint-preserved
loop-joint-preserved c = record {
  grows = grows_both c.args.known.now c.loop-joint.known c.add.new.self c.loop-joint.invariant.grows c.in_ok-add.ensures.grows;
  has = each_more (IsKnown c.add.new.self) c.args.joints.now c.loop-joint.joint-index (get_or c.args.joints.now c.loop-joint.joint-index [])
      c.loop-joint-test.true (get_or_default c.args.joints.now c.loop-joint.joint-index [] (get_or c.args.joints.now c.loop-joint.joint-index []) c.loop-joint-test.true)
      (λ x i. still_known c.loop-joint.known c.add.new.self x c.in_ok-add.ensures.grows (c.loop-joint.invariant.has x i)) c.in_ok-add.ensures.has;
}

pub returns-clause-grows : goal.returns-clause-grows
returns-clause-grows c = c.loop-joint.invariant.grows

pub returns-clause-has : goal.returns-clause-has
returns-clause-has c =
    let whole : c.loop-joint.joint-index ≡ length c.args.joints.now = omega arith in
    each_all (IsKnown c.loop-joint.known) c.args.joints.now c.loop-joint.joint-index whole c.loop-joint.invariant.has
