use Rattle.std.proofs.Common.{◌≡◌, List, ℕ, ◌+◌, ◌<◌, length, Some, refl, subst, subst₂, sym, ap, ◌∙◌, arith}
use Rattle.std.specs.Prelude.{slice_get}
use Rattle.std.proofs.lemmas.Option.{slice_get_read, slice_get_within, same_Some}
use Rattle.mapf_optimum.specs.Together.{Agent}
use Rattle.mapf_optimum.specs.PlaceNumbers.{AgentKnown, AreLookedOn, GetsMore, IsLookedOn, number_in}
use Rattle.mapf_optimum.proofs.PlansWithin.{either_known, more_set}
use Rattle.mapf_optimum.proofs.together.look_on.Goals as goal

pub loop-agent-init : goal.loop-agent-init
loop-agent-init c = record {
  more = record { each = refl; more = λ i a b h is. subst (GetsMore a) (same_Some a b (sym h ∙ is)) (record { all = λ n x k. k; first = refl }) };
  looked = c.requires.looked;
  there = λ i agent known l h is. absurd (omega (arith, l));
}

pub look_on-requires : goal.look_on-requires
look_on-requires c =
    let k = c.loop-agent.agent in
    let inside : k < length c.loop-agent.places.items = omega (arith, c.loop-agent-test.true, c.loop-agent.invariant.more.each, c.requires.each) in
    c.loop-agent.invariant.looked k c.index-agents-agent.result c.index_mut.result.now
    (slice_get_read c.args.agents.now (length c.args.agents.now) k c.index-agents-agent.result refl c.loop-agent-test.true c.index-agents-agent.is)
    (slice_get_read c.loop-agent.places.items (length c.loop-agent.places.items) k c.index_mut.result.now refl inside c.index_mut.ensures.value)

pub loop-agent-preserved : goal.loop-agent-preserved
loop-agent-preserved c = record {
  more = more_set places k before after got c.args.places.now.items c.in_ok-look_on.ensures.more c.loop-agent.invariant.more;
  looked = λ i a b h is. either_known places k before after got i b (AreLookedOn a b) is
      (λ e f. subst₂ AreLookedOn (same_agent i a e h) f c.in_ok-look_on.ensures.looked)
      (λ other there. c.loop-agent.invariant.looked i a b h there);
  there = λ i a b l h is. either_known places k before after got i b (IsLookedOn a b (number_in c.args.numbers.now i) (number_in c.args.mosts.now i + 1)) is
      (λ e f. subst (λ j. IsLookedOn a b (number_in c.args.numbers.now j) (number_in c.args.mosts.now j + 1)) e
      (subst₂ (λ x y. IsLookedOn x y (number_in c.args.numbers.now k) (number_in c.args.mosts.now k + 1)) (same_agent i a e h) f c.in_ok-look_on.ensures.there))
      (λ other there. c.loop-agent.invariant.there i a b (omega (arith, l, other)) h there);
}
  where
    k : ℕ
    k = c.loop-agent.agent

    places : List AgentKnown
    places = c.loop-agent.places.items

    before : AgentKnown
    before = c.index_mut.result.now

    after : AgentKnown
    after = c.look_on.new.self

    got : slice_get places k ≡ Some before
    got = slice_get_read places (length places) k before refl (omega (arith, c.loop-agent-test.true, c.loop-agent.invariant.more.each, c.requires.each)) c.index_mut.ensures.value

    same_agent : (i : ℕ) (a : Agent) → k ≡ i → slice_get c.args.agents.now i ≡ Some a → c.index-agents-agent.result ≡ a
    same_agent i a e h = same_Some c.index-agents-agent.result a
        (sym (slice_get_read c.args.agents.now (length c.args.agents.now) k c.index-agents-agent.result refl c.loop-agent-test.true c.index-agents-agent.is) ∙ ap (slice_get c.args.agents.now) e ∙ h)

pub returns-clause-there : goal.returns-clause-there
returns-clause-there c = λ i a b h is.
    let l : i < length c.args.agents.now = slice_get_within c.args.agents.now i a h in
    c.loop-agent.invariant.there i a b (omega (arith, l, c.loop-agent-test.false)) h is
