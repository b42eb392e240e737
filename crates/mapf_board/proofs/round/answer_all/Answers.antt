use Rattle.std.proofs.Common.{arith, ◌≡◌, [], ◌∷◌, map, ap, subst, IfSome, inl, inr, ⊎_elim, ◌∙◌}
use Rattle.std.specs.Slice.Iter.{iter_rest}
use Rattle.std.proofs.lemmas.List.{nil_from_length}
use Rattle.mapf_board.proofs.RoundLists.{answered_more, answered_all, next_place, none_left}
use Rattle.mapf_board.proofs.round.answer_all.Goals as goal
use Rattle.mapf_board.proofs.round.answer_all.Goals.{in-Some-place, in-None-place+in_ok-pair-in-None-place}

pub loop-order-preserved : goal.loop-order-preserved
loop-order-preserved g c =
    let f = g.O.Order.ordered in
    let job = f c.in-Some.order.now in
    let orders : iter_rest c.loop-order.order-iterator.a ≡ c.in-Some.order.now ∷ iter_rest c.next.new.self.a = c.in-Some.ensures.steps.0 in
    let places : c.loop-order.order-iterator.b.rest.items ≡ c.in-Some.place ∷ c.next.new.self.b.rest.items = c.in-Some.ensures.steps.1.0 in
    let at = next_place _ _ _ _ job c.in-Some.place (ap (map f) orders) places c.loop-order.invariant.places in
    let is : c.match-place.pair.0 ≡ job = elim c.match-place.branch [
      | in-Some-place w ↦ ap (λ p. p.0) w.pair-is ∙ subst (λ place. IfSome place (λ pair. pair.0 ≡ job)) w.in-Some-place.is at.0
      | in-None-place+in_ok-pair-in-None-place w ↦ ap (λ p. p.0) w.pair-is ∙ w.in_ok-pair-in-None-place.ensures
    ] in
    record {
      answered = answered_more g.W.Task.fits (map f c.args.orders.now) _ _ _ _ job c.parts.result.1 (ap (map f) orders) c.in_ok-push.ensures.items
          (subst (λ j. g.W.Task.fits j c.parts.result.1) (c.parts.ensures.same.0 ∙ is) c.parts.ensures.fits) c.loop-order.invariant.answered;
      places = at.1;
    }

pub returns : goal.returns
returns g c =
    let none : map g.O.Order.ordered (iter_rest c.loop-order.order-iterator.a) ≡ [] =
    none_left _ _ c.loop-order.invariant.places (⊎_elim (λ a. inl (ap (map g.O.Order.ordered) (nil_from_length _ a.1.0)))
    (λ b. inr (nil_from_length c.loop-order.order-iterator.b.rest.items (omega (arith, b.1.0, c.loop-order.order-iterator.b.rest.ok.0)))) c.in-None.ensures.steps) in
    answered_all g.W.Task.fits _ _ _ none c.loop-order.invariant.answered
