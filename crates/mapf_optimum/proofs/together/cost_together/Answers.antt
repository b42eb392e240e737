use Rattle.std.proofs.Common.{refl, subst, subst₂}
use Rattle.mapf_optimum.specs.Together.{HasNoPlan}
use Rattle.mapf_optimum.specs.PlaceNumbers.{AreKnownOf}
use Rattle.mapf_optimum.proofs.JointSearch.{one_more}
use Rattle.mapf_optimum.proofs.together.cost_together.Goals as goal

pub loop-terms-init : goal.loop-terms-init
loop-terms-init c = record {
  rule = refl;
  bound = refl;
  least = c.requires.least;
  places = c.in_ok-places.ensures;
}

pub loop-terms-preserved : goal.loop-terms-preserved
loop-terms-preserved c = record {
  rule = c.loop-terms.invariant.rule;
  bound = c.loop-terms.invariant.bound;
  least = one_more c.args.rule c.args.agents.now c.loop-terms.terms.total
      (subst₂ (λ r w. HasNoPlan r c.args.agents.now c.loop-terms.terms.total w) c.loop-terms.invariant.rule c.in-Nothing.is c.in_ok-plan_within.ensures.none);
  places = subst (λ b. AreKnownOf c.args.agents.now b c.plan_within.new.places.items) c.loop-terms.invariant.bound c.in_ok-plan_within.ensures.places;
}
