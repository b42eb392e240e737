use Rattle.std.proofs.Common.{◌+◌, List, [], length, arith, refl, sym, subst, ◌∙◌}
use Rattle.std.proofs.lemmas.Bool.{false≢true}
use Rattle.mapf_optimum.specs.PlaceNumbers.{AgentKnown, AllBegin, AreAtKnown, AreHome, AreNumbered, GoesOnFrom, IsSearched, IsTakenFrom}
use Rattle.mapf_optimum.proofs.JointSearch.{turn, no_plan, numbered_still}
use Rattle.mapf_optimum.proofs.PlansWithin.{all_begin, goes_from, known_still}
use Rattle.mapf_optimum.proofs.together.plan_within.Goals as goal

pub loop-joint-init : goal.loop-joint-init
loop-joint-init c = record {
  places = c.requires.places;
  searched = λ plan is.
      subst (λ p. IsSearched plan p c.in_ok-known.known) c.deref.ensures.value
      (c.in_ok-known.ensures plan (subst (AllBegin plan) (sym c.deref.ensures.value)
      (all_begin c.args.terms.rule c.args.agents.now c.args.terms.total plan is c.args.terms.bound c.args.places.now.items c.requires.within c.requires.places)));
}

pub returns-in_default : goal.returns-in_default
returns-in_default c = record {
  none = λ plan is.
      no_plan plan c.loop-joint.places.items c.loop-joint.known (c.loop-joint.invariant.searched plan is) (subst (λ o. IsTakenFrom c.loop-joint.known o c.take.new.self) c.in_default.is c.take.ensures)
      c.args.terms.rule c.args.agents.now c.args.terms.total c.loop-joint.invariant.places.each is;
  places = c.loop-joint.invariant.places;
}

pub loop-joint-preserved : goal.loop-joint-preserved
loop-joint-preserved c = record {
  places = known_still c.args.agents.now c.args.terms.bound before after c.in_ok-look_on.ensures.more c.in_ok-look_on.ensures.looked c.loop-joint.invariant.places;
  searched = λ plan is.
      turn plan before after c.in_ok-look_on.ensures.more c.loop-joint.known c.take.new.self c.go_on.new.known c.in-Some.number c.in-Some-at.numbers c.in-Some-joint_of.joint (c.loop-joint.invariant.searched plan is)
      (subst (λ o. IsTakenFrom c.loop-joint.known o c.take.new.self) c.in-Some.is c.take.ensures)
      (sym c.at.ensures ∙ c.in-Some-at.is) numbered away c.in_ok-go_on.ensures.grows
      (λ time l at.
      subst (λ p. AreAtKnown plan p c.go_on.new.known [] (time + 1)) c.deref-in-loop-joint-2.ensures.value
      (c.in_ok-go_on.ensures.next plan time (subst (λ p. GoesOnFrom plan c.args.terms p c.in-Some-at.numbers c.in-Some-joint_of.joint time) (sym c.deref-in-loop-joint-2.ensures.value)
      (goes_from c.args.terms.rule c.args.agents.now c.args.terms.total plan is c.args.terms after c.in-Some-at.numbers c.mosts_within-mosts.result c.in-Some-joint_of.joint time refl refl
      (c.in_ok-look_on.ensures.more.each ∙ c.loop-joint.invariant.places.each) c.in_ok-look_on.ensures.there (c.mosts_within-mosts.ensures c.args.terms.rule plan is)
      (omega (arith, l, is.0.within, c.requires.within)) (numbered_still plan before after c.in_ok-look_on.ensures.more c.in-Some-at.numbers c.in-Some-joint_of.joint numbered) at))));
}
  where
    before : List AgentKnown
    before = c.loop-joint.places.items

    after : List AgentKnown
    after = c.look_on.new.places.items

    numbered : AreNumbered before c.in-Some-at.numbers c.in-Some-joint_of.joint
    numbered = subst (λ p. AreNumbered p c.in-Some-at.numbers c.in-Some-joint_of.joint) c.deref-in-loop-joint.ensures.value c.in-Some-joint_of.ensures

    away : ¬ AreHome (length before) c.in-Some-joint_of.joint
    away h = false≢true (sym c.if-are_home.false ∙ c.are_home.ensures (subst (λ n. AreHome n c.in-Some-joint_of.joint) c.loop-joint.invariant.places.each h))
