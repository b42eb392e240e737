use Rattle.std.proofs.Common.{◌≡◌, ◌+◌, [], ◌∷◌, ◌++◌, take, subst, subst₂, sym, ap, ◌∙◌}
use Rattle.std.proofs.lemmas.List.{take_all, take_more}
use Rattle.mapf_optimum.specs.Together.{Agent}
use Rattle.mapf_optimum.specs.PlaceNumbers.{AreKnownOf}
use Rattle.mapf_optimum.proofs.PlansWithin.{known_none, known_more}
use Rattle.mapf_optimum.proofs.together.start.first_places.Goals as goal

pub loop-agent-init : goal.loop-agent-init
loop-agent-init c = subst (AreKnownOf [] c.args.bound) (sym c.in_ok-places.ensures.items) (known_none c.args.bound)

pub loop-agent-preserved : goal.loop-agent-preserved
loop-agent-preserved c =
    let a : Agent = c.agent-item.result in
    let more : take (c.loop-agent.agent-index + 1) c.args.agents.now ≡ take c.loop-agent.agent-index c.args.agents.now ++ a ∷ [] =
    take_more c.args.agents.now c.loop-agent.agent-index a c.loop-agent-test.true ∙ ap (λ (y : Agent). take c.loop-agent.agent-index c.args.agents.now ++ y ∷ []) (sym c.agent-item.is) in
    subst₂ (λ l ps. AreKnownOf l c.args.bound ps) (sym more) (sym c.in_ok-push.ensures.items)
    (known_more (take c.loop-agent.agent-index c.args.agents.now) c.args.bound c.loop-agent.places.items a c.in_ok-new.field-0 c.loop-agent.invariant c.in_ok-new.ensures.begins c.in_ok-new.ensures.looked)

pub returns : goal.returns
returns c = subst (λ l. AreKnownOf l c.args.bound c.loop-agent.places.items) (take_all c.loop-agent.agent-index c.args.agents.now c.loop-agent-test.false) c.loop-agent.invariant
