-- What agents cost at a joint place, and on the paths of a plan.
use Rattle.std.proofs.Common.{◌≡◌, ℕ, zero, suc, ◌+◌, ◌-◌, ◌<◌, ◌≤◌, List, [], ◌∷◌, length, take, drop, get_or, sum_by, subst, sym, refl, ap, ◌∙◌, ⊎_elim, arith}
use Rattle.std.proofs.lemmas.Bool.{cases_lt}
use Rattle.std.proofs.Math.Seq.{drop-cons}
use Rattle.std.proofs.lemmas.List.{get_or_default, get_or-take, take_more, take_all, length-take, drop_all, get_or_past}
use Rattle.std.proofs.lemmas.List.Sums.{sum_by-cons, sum_by_push}
use Rattle.mapf_plan.specs.Path.{at, cost}
use Rattle.mapf_plan.specs.Plan.{path_of, plan_cost}
use Rattle.mapf_plan.specs.Collisions.{DoStepsCollide}
use Rattle.mapf_plan.specs.declared.rule.Rule.{Rule}
use Rattle.mapf_optimum.specs.declared.together.place.Place.{Place}
use Rattle.mapf_optimum.specs.Together.{AreAt, ArePlan, no_place, place_in}
use Rattle.mapf_optimum.specs.PlaceNumbers.{cost_in}

-- what a place has, as it is read
pub number_at_place : (f : Place → ℕ) (joint : List Place) (i : ℕ) (x : Place) → i < length joint → f (get_or joint i x) ≡ f (place_in joint i)
number_at_place f joint i x h = ap f (get_or_default joint i x no_place h)

-- the agent that goes on to its place in the plan collides with none before it
pub goes_apart : (rule : Rule) (count total time agent other : ℕ) (plan : List (List ℕ)) (from to : List Place) (was is here there : ℕ) → ArePlan rule count total plan → other < agent → agent < count →
    AreAt plan count time from → AreAt plan agent (time + 1) to → at (path_of plan agent) (time + 1) ≡ there →
    was ≡ (place_in from other).cell → is ≡ (place_in to other).cell → here ≡ (place_in from agent).cell → ¬ DoStepsCollide rule was is here there
goes_apart rule count total time agent other plan from to was is here there are before inside before_at now_at to_there e_was e_is e_here does =
    are.apart other agent before inside (time + 1)
    (subst (λ s. DoStepsCollide rule (at (path_of plan other) s) (at (path_of plan other) (time + 1)) (at (path_of plan agent) s) (at (path_of plan agent) (time + 1))) back
    (subst (λ a. DoStepsCollide rule a (at (path_of plan other) (time + 1)) (at (path_of plan agent) time) (at (path_of plan agent) (time + 1))) (e_was ∙ (before_at other (omega (arith, before, inside))).on)
    (subst (λ a. DoStepsCollide rule was a (at (path_of plan agent) time) (at (path_of plan agent) (time + 1))) (e_is ∙ (now_at other before).on)
    (subst (λ a. DoStepsCollide rule was is a (at (path_of plan agent) (time + 1))) (e_here ∙ (before_at agent inside).on)
    (subst (λ a. DoStepsCollide rule was is here a) (sym to_there) does)))))
  where
    back : time ≡ time + 1 - 1
    back = omega arith

free : no_place.cost ≡ 0
unfolding no_place
free = refl

-- what a plan costs at least, by where some agents go on to and the others come from
abbrev pub cost_when_gone : List (List ℕ) → (count gone : ℕ) → List Place → ℕ
cost_when_gone plan count gone from = sum_by cost (take gone plan) + cost_in (drop gone (take count from))

module _ (plan : List (List ℕ)) (count : ℕ) (from : List Place) (each : length plan ≡ count) where
  -- the next one comes from there
  pub cost_front : (gone : ℕ) → gone < count → cost_in (drop gone (take count from)) ≡ (place_in from gone).cost + cost_in (drop (gone + 1) (take count from))
  cost_front gone l = ⊎_elim inside outside (cases_lt gone (length from))
    where
      Front : Type 0
      Front = cost_in (drop gone (take count from)) ≡ (place_in from gone).cost + cost_in (drop (gone + 1) (take count from))

      inside : gone < length from → Front
      inside h =
          ap cost_in (drop-cons (take count from) gone no_place (omega (arith, l, h, length-take {A = Place})))
          ∙ sum_by-cons (λ (x : Place). x.cost) (get_or (take count from) gone no_place) (drop (suc gone) (take count from))
          ∙ ap (λ (x : Place). x.cost + cost_in (drop (suc gone) (take count from))) (get_or-take count from gone no_place l)
          ∙ ap (λ k. (place_in from gone).cost + cost_in (drop k (take count from))) (let next : suc gone ≡ gone + 1 = omega arith in next)

      outside : length from ≤ gone → Front
      outside h =
          let none : cost_in (drop gone (take count from)) ≡ 0 = ap cost_in (drop_all gone (take count from) (omega (arith, h, length-take {A = Place}))) in
          let more : cost_in (drop (gone + 1) (take count from)) ≡ 0 = ap cost_in (drop_all (gone + 1) (take count from) (omega (arith, h, length-take {A = Place}))) in
          let past : (place_in from gone).cost ≡ no_place.cost = ap (λ (x : Place). x.cost) (get_or_past from gone no_place h) in
          omega (arith, none, more, past, free)

  -- and goes on to there
  pub cost_behind : (gone : ℕ) → gone < count → sum_by cost (take (gone + 1) plan) ≡ sum_by cost (take gone plan) + cost (path_of plan gone)
  cost_behind gone l = ap (λ p. sum_by cost p) (take_more plan gone [] (omega (arith, l, each))) ∙ sum_by_push cost (take gone plan) (path_of plan gone)

  -- so it is no more than the plan costs
  pub cost_no_more : ((i : ℕ) → i < count → (place_in from i).cost ≤ cost (path_of plan i)) → (left gone : ℕ) → gone + left ≡ count → cost_when_gone plan count gone from ≤ plan_cost plan
  cost_no_more pays zero gone e =
      let none : cost_in (drop gone (take count from)) ≡ 0 = ap cost_in (drop_all gone (take count from) (omega (arith, e, length-take {A = Place}))) in
      let all : sum_by cost (take gone plan) ≡ plan_cost plan = ap (λ p. sum_by cost p) (take_all gone plan (omega (arith, e, each))) in
      omega (arith, none, all)
  cost_no_more pays (suc left) gone e =
      let l : gone < count = omega (arith, e) in
      omega (arith, cost_no_more pays left (gone + 1) (omega (arith, e)), cost_front gone l, cost_behind gone l, pays gone l)

none : (joint : List Place) → cost_in (drop 0 joint) ≡ cost_in joint
none [] = refl
none (x ∷ xs) = refl

-- before any goes on, it is what they cost there
pub cost_first : (plan : List (List ℕ)) (count : ℕ) (from : List Place) → cost_when_gone plan count 0 from ≡ cost_in (take count from)
cost_first [] count from = omega (arith, none (take count from))
cost_first (p ∷ ps) count from = omega (arith, none (take count from))
