use Rattle.std.proofs.Common.{rules, ◌≡◌, ℕ, ◌<◌, List, length, set, Some, refl, subst, sym, ap, ◌∙◌, ⊎_elim, arith}
use Rattle.std.specs.Prelude.{slice_get}
use Rattle.std.proofs.lemmas.Bool.{cases_lt}
use Rattle.std.proofs.lemmas.List.{get_or-set_same, get_or-set_other}
use Rattle.std.proofs.lemmas.Option.{slice_get_read, slice_get_within, same_Some}
use Rattle.mapf_optimum.specs.declared.together.place.Place.{Place}
use Rattle.mapf_optimum.specs.Together.{no_place, place_in}
use Rattle.mapf_optimum.specs.PlaceNumbers.{AgentKnown, HasNumber, number_in}
use Rattle.mapf_optimum.proofs.together.joint.joint_of.Goals as goal

pub loop-agent-preserved : goal.loop-agent-preserved
loop-agent-preserved c = λ i known l is. ⊎_elim (λ h. before i known h is) (λ h. here i known (omega (arith, l, h)) is) (cases_lt i c.loop-agent.agent)
  where
    agent : ℕ
    agent = c.loop-agent.agent

    place : Place
    place = c.in_ok-joint.field-0.place

    new : List Place
    new = set c.loop-agent.joint agent place

    inside : agent < length c.loop-agent.joint
    inside = search rules

    before : (i : ℕ) (known : AgentKnown) → i < agent → slice_get c.args.places.now i ≡ Some known → (time : ℕ) × HasNumber known (number_in c.args.numbers.now i) (place_in new i) time
    before i known h is =
        let was = c.loop-agent.invariant i known h is in
        (was.0, subst (λ x. HasNumber known (number_in c.args.numbers.now i) x was.0) (sym (get_or-set_other c.loop-agent.joint agent i place no_place (λ e. omega (arith, e, h)))) was.1)

    got : slice_get c.args.places.now agent ≡ Some c.index-places-agent.result
    got = slice_get_read c.args.places.now (length c.args.places.now) agent c.index-places-agent.result refl c.loop-agent-test.true c.index-places-agent.is

    here : (i : ℕ) (known : AgentKnown) → agent ≡ i → slice_get c.args.places.now i ≡ Some known → (time : ℕ) × HasNumber known (number_in c.args.numbers.now i) (place_in new i) time
    here i known e is = (
      c.in_ok-joint.field-0.time,
      subst (λ k. HasNumber known (number_in c.args.numbers.now k) (place_in new k) c.in_ok-joint.field-0.time) e
          (subst (λ x. HasNumber known (number_in c.args.numbers.now agent) x c.in_ok-joint.field-0.time) (sym (get_or-set_same c.loop-agent.joint agent place no_place inside))
          (subst (λ k. HasNumber k (number_in c.args.numbers.now agent) place c.in_ok-joint.field-0.time) (same_Some c.index-places-agent.result known (sym got ∙ ap (slice_get c.args.places.now) e ∙ is))
          (sym c.at.ensures ∙ c.in_ok-joint.was))),
    )

pub returns : goal.returns
returns c = λ i known is.
    let l : i < length c.args.places.now = slice_get_within c.args.places.now i known is in
    c.loop-agent.invariant i known (omega (arith, l, c.loop-agent-test.false)) is
