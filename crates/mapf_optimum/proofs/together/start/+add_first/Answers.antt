use Rattle.std.proofs.Common.{rules, ◌≡◌, ℕ, ◌<◌, List, [], length, inl, set, Some, refl, subst, subst₂, sym, ap, ◌∙◌, ⊎_elim, arith, below_more}
use Rattle.std.specs.Prelude.{slice_get}
use Rattle.std.proofs.lemmas.Bool.{cases_lt}
use Rattle.std.proofs.lemmas.List.{get_or-set_same, get_or-set_other}
use Rattle.std.proofs.lemmas.Option.{slice_get_read, slice_get_within, same_Some}
use Rattle.std.proofs.lemmas.Result.{on_ok_weaker}
use Rattle.mapf_plan.specs.Plan.{path_of}
use Rattle.mapf_optimum.specs.PlaceNumbers.{AgentKnown, AreAtKnown, IsAtNumber, number_in}
use Rattle.mapf_optimum.proofs.Goings.{at_known_still}
use Rattle.mapf_optimum.proofs.JointLists.{grows_none, grows_both}
use Rattle.mapf_optimum.proofs.together.start.+add_first.Goals as goal

pub returns-then-agent-places-clause-has : goal.returns-then-agent-places-clause-has
returns-then-agent-places-clause-has t c =
    on_ok_weaker c.add.result
    (λ has plan begun begins. (
      c.args.numbers.now,
      inl has,
      λ i known is.
          let l : i < length c.args.places.now = slice_get_within c.args.places.now i known is in
          begun i known (omega (arith, l, c.if-agent-places.true)) is,
    ))
    c.add.ensures.has

pub loop-number-init : goal.loop-number-init
loop-number-init t c = record { grows = grows_none c.args.known.now; same = λ i l. refl; has = λ plan begun begins known is n l. absurd (omega (arith, l)) }

pub loop-number-preserved : goal.loop-number-preserved
loop-number-preserved t c = record {
  grows = grows_both c.args.known.now c.loop-number.known c.add_first.new.known c.loop-number.invariant.grows c.in_ok-add_first.ensures.grows;
  same = λ i l. c.in_ok-add_first.ensures.same i (omega (arith, l)) ∙ other i l;
  has = λ plan begun begins known is. below_more (λ n. IsAtNumber known (path_of plan agent) 0 n → AreAtKnown plan c.args.places.now c.add_first.new.known [] 0) c.loop-number.number
      (λ n l at.
      at_known_still plan c.args.places.now c.loop-number.known c.add_first.new.known [] [] 0 c.in_ok-add_first.ensures.grows (λ x i. i) (c.loop-number.invariant.has plan begun begins known is n l at))
      (λ at. c.in_ok-add_first.ensures.has plan
      (λ i k l there. ⊎_elim
      (λ h. subst (λ n. IsAtNumber k (path_of plan i) 0 n) (sym (other i h)) (begun i k h there))
      (λ h.
      let e : agent ≡ i = omega (arith, h, l) in
      subst (λ j. IsAtNumber k (path_of plan j) 0 (number_in new j)) e
      (subst₂ (λ a n. IsAtNumber a (path_of plan agent) 0 n) (same_Some known k (sym is ∙ ap (slice_get c.args.places.now) e ∙ there))
      (sym (get_or-set_same c.loop-number.numbers agent c.loop-number.number 0 inside)) at))
      (cases_lt i agent))
      begins);
}
  where
    agent : ℕ
    agent = c.args.agent

    new : List ℕ
    new = set c.loop-number.numbers agent c.loop-number.number

    inside : agent < length c.loop-number.numbers
    inside = search rules

    other : (i : ℕ) → i < agent → number_in new i ≡ number_in c.args.numbers.now i
    other i l = get_or-set_other c.loop-number.numbers agent i c.loop-number.number 0 (λ e. omega (arith, e, l)) ∙ c.loop-number.invariant.same i l

pub returns-clause-has : goal.returns-clause-has
returns-clause-has t c = λ plan begun begins.
    let known : AgentKnown = c.index-places-agent.result in
    let got : slice_get c.args.places.now c.args.agent ≡ Some known = slice_get_read c.args.places.now (length c.args.places.now) c.args.agent known refl (omega arith) c.index-places-agent.is in
    let first = begins c.args.agent known got in
    c.loop-number.invariant.has plan begun begins known got first.0 (omega (arith, first.1, c.first-number-end.ensures, c.loop-number-test.false)) first.2
