use Rattle.std.proofs.Common.{rules, ◌≡◌, ◌+◌, ◌<◌, ◌≤◌, true, false, List, length, set, Some, refl, subst, sym, ◌∙◌, arith}
use Rattle.std.specs.Prelude.{slice_get}
use Rattle.std.proofs.lemmas.Option.{slice_get_read, same_Some}
use Rattle.std.proofs.lemmas.Result.{on_ok_weaker}
use Rattle.mapf_optimum.specs.declared.together.place.Move.{Move}
use Rattle.mapf_optimum.specs.declared.together.steps.To.{To}
use Rattle.mapf_optimum.specs.PlaceNumbers.{AgentKnown, AreAtKnown, GoesBy, HasNumber, IsMoveFrom, number_in}
use Rattle.mapf_optimum.proofs.JointLists.{grows_none, grows_both}
use Rattle.mapf_optimum.proofs.JointSteps.{each_none, each_more, each_all}
use Rattle.mapf_optimum.proofs.Goings.{all_gone, cost_then, cost_within, gone_by, gone_same, most_is, same_both, same_none, at_known_still}
use Rattle.mapf_optimum.proofs.together.steps.+joint.Goals as goal

pub add_from-loop-next-init : goal.add_from-loop-next-init
add_from-loop-next-init t c = record {
  grows = grows_none c.args.known.now;
  keeps = λ x i. i;
  same = same_none c.args.agent c.args.to.now c.args.to.now refl;
  adds = λ plan time goes gone. each_none
      (λ (m : Move). GoesBy plan c.args.from.now.places.now c.args.agent m (time + 1) → AreAtKnown plan c.args.from.now.places.now c.args.known.now c.args.cheap.now.items (time + 1));
}

pub add_from-loop-next-preserved : goal.add_from-loop-next-preserved
add_from-loop-next-preserved t c =
    let was = c.loop-next.invariant in
    let more = c.in_ok-add_by.ensures in
    record {
      grows = grows_both c.args.known.now c.loop-next.known c.add_by.new.known was.grows more.grows;
      keeps = λ x i. more.keeps x (was.keeps x i);
      same = same_both c.args.agent c.args.to.now c.loop-next.to c.add_by.new.to was.same more.same;
      adds = λ plan time goes gone. each_more
          (λ (m : Move). GoesBy plan c.args.from.now.places.now c.args.agent m (time + 1) → AreAtKnown plan c.args.from.now.places.now c.add_by.new.known c.add_by.new.cheap.items (time + 1))
          c.moves-next-items.result.now c.loop-next.next-index c.next-item.result c.loop-next-test.true c.next-item.is
          (λ m i by. at_known_still plan c.args.from.now.places.now c.loop-next.known c.add_by.new.known c.loop-next.cheap.items c.add_by.new.cheap.items (time + 1) more.grows more.keeps (was.adds plan time goes gone m i by))
          (λ by. more.adds plan time goes (gone_same plan c.args.from.now.terms c.args.from.now.places.now c.args.from.now.numbers.now c.args.from.now.joint.now time goes c.args.agent c.args.cost c.args.to.now c.loop-next.to was.same gone) by);
    }

pub add_from-returns-clause-adds : goal.add_from-returns-clause-adds
add_from-returns-clause-adds t c = λ plan time goes gone.
    let places : List AgentKnown = c.args.from.now.places.now in
    let known : AgentKnown = c.index-from-agent.result in
    let inside : c.args.agent < length places = c.requires.agent in
    let got : slice_get places c.args.agent ≡ Some known = slice_get_read places (length places) c.args.agent known refl inside c.index-from-agent.is in
    let l = goes.leads c.args.agent known got in
    let by : GoesBy plan places c.args.agent l.0 (time + 1) = record {
      numbered = λ k is. subst (λ k. HasNumber k l.0.number l.0.place (time + 1)) (same_Some known k (sym got ∙ is)) l.2;
      stands = l.3;
    } in
    each_all (λ (m : Move). GoesBy plan places c.args.agent m (time + 1) → AreAtKnown plan places c.loop-next.known c.loop-next.cheap.items (time + 1))
    c.moves-next-items.result.now c.loop-next.next-index (omega (arith, c.loop-next.auto.next-index-end, c.loop-next-test.false)) (c.loop-next.invariant.adds plan time goes gone)
    l.0 (c.moves-next-items.ensures l.0 (subst (λ k. IsMoveFrom k (number_in c.args.from.now.numbers.now c.args.agent) l.0) c.index-from-agent.is l.1)) by

pub add_by-returns-then-sum-from-clause-adds : goal.add_by-returns-then-sum-from-clause-adds
add_by-returns-then-sum-from-clause-adds t c = λ plan time goes gone by.
    let sum = cost_then plan c.args.from.now.terms c.args.from.now.places.now c.args.from.now.numbers.now c.args.from.now.joint.now time goes c.args.agent c.args.cost c.requires.agent c.args.to.now gone c.args.next.now by c.cost_by-sum.result
    (c.cost_by-sum.ensures _ (most_is plan c.args.from.now.terms c.args.from.now.places.now c.args.from.now.numbers.now c.args.from.now.joint.now time goes c.args.agent c.args.cost c.requires.agent c.args.to.now gone c.args.next.now by)) in
    let within : c.cost_by-sum.result ≤ c.args.from.now.terms.total = cost_within plan c.args.from.now.terms c.args.from.now.places.now c.args.from.now.numbers.now c.args.from.now.joint.now time goes c.args.agent c.args.cost c.requires.agent c.args.to.now gone c.args.next.now by c.cost_by-sum.result sum in
    absurd (omega (arith, within, c.if-sum-from.true))

pub add_by-returns-then-not-is_apart-clause-adds : goal.add_by-returns-then-not-is_apart-clause-adds
add_by-returns-then-not-is_apart-clause-adds t c = λ plan time goes gone by.
    let yes : c.is_apart.result ≡ true = c.is_apart.ensures plan (length c.args.from.now.places.now) c.args.from.now.terms.total time goes.is c.requires.agent goes.here gone.there by.stands in
    absurd (let no : false ≡ true = sym c.if-not-is_apart.true ∙ yes in cc)

pub add_by-returns-then-agent-from-clause-adds : goal.add_by-returns-then-agent-from-clause-adds
add_by-returns-then-agent-from-clause-adds t c =
    let new : To = record { numbers = set c.args.to.now.numbers c.args.agent c.args.next.now.number; joint = set c.args.to.now.joint c.args.agent c.args.next.now.place } in
    let few_joint : length c.args.from.now.places.now ≤ length c.args.to.now.joint = search rules in
    let few_numbers : length c.args.from.now.places.now ≤ length c.args.to.now.numbers = search rules in
    on_ok_weaker c.add_from.result
    (λ adds plan time goes gone by.
    let sum = cost_then plan c.args.from.now.terms c.args.from.now.places.now c.args.from.now.numbers.now c.args.from.now.joint.now time goes c.args.agent c.args.cost c.requires.agent c.args.to.now gone c.args.next.now by c.cost_by-sum.result
    (c.cost_by-sum.ensures _ (most_is plan c.args.from.now.terms c.args.from.now.places.now c.args.from.now.numbers.now c.args.from.now.joint.now time goes c.args.agent c.args.cost c.requires.agent c.args.to.now gone c.args.next.now by)) in
    adds plan time goes (gone_by plan c.args.from.now.terms c.args.from.now.places.now c.args.from.now.numbers.now c.args.from.now.joint.now time goes c.args.agent c.args.cost c.requires.agent c.args.to.now gone c.args.next.now by new c.cost_by-sum.result few_joint few_numbers refl refl sum))
    c.add_from.ensures.adds

pub add_by-returns-else-agent-from-clause-adds : goal.add_by-returns-else-agent-from-clause-adds
add_by-returns-else-agent-from-clause-adds t c =
    let new : To = record { numbers = set c.args.to.now.numbers c.args.agent c.args.next.now.number; joint = set c.args.to.now.joint c.args.agent c.args.next.now.place } in
    let few_joint : length c.args.from.now.places.now ≤ length c.args.to.now.joint = search rules in
    let few_numbers : length c.args.from.now.places.now ≤ length c.args.to.now.numbers = search rules in
    on_ok_weaker c.add.result
    (λ has plan time goes gone by.
    let sum = cost_then plan c.args.from.now.terms c.args.from.now.places.now c.args.from.now.numbers.now c.args.from.now.joint.now time goes c.args.agent c.args.cost c.requires.agent c.args.to.now gone c.args.next.now by c.cost_by-sum.result
    (c.cost_by-sum.ensures _ (most_is plan c.args.from.now.terms c.args.from.now.places.now c.args.from.now.numbers.now c.args.from.now.joint.now time goes c.args.agent c.args.cost c.requires.agent c.args.to.now gone c.args.next.now by)) in
    let all = gone_by plan c.args.from.now.terms c.args.from.now.places.now c.args.from.now.numbers.now c.args.from.now.joint.now time goes c.args.agent c.args.cost c.requires.agent c.args.to.now gone c.args.next.now by new c.cost_by-sum.result few_joint few_numbers refl refl sum in
    (new.numbers, has, all_gone plan c.args.from.now.terms c.args.from.now.places.now c.args.from.now.numbers.now c.args.from.now.joint.now time goes (c.args.agent + 1) c.cost_by-sum.result new (omega (arith, c.if-agent-from.false)) all))
    c.add.ensures.has
