-- How a plan's agents go on from a joint place, one after the other.
use Rattle.std.proofs.Common.{◌≡◌, ℕ, ◌+◌, ◌-◌, ◌<◌, ◌≤◌, List, length, take, drop, set, sum_by, Contains, inl, inr, subst, subst₂, sym, ap, ◌∙◌, ⊎_elim, arith}
use Rattle.std.specs.Prelude.{slice_get}
use Rattle.std.proofs.lemmas.Bool.{cases_lt}
use Rattle.std.proofs.lemmas.List.{get_or-set_same, get_or-set_other}
use Rattle.std.proofs.lemmas.Option.{slice_get_within}
use Rattle.mapf_plan.specs.Path.{cost}
use Rattle.mapf_plan.specs.Plan.{path_of}
use Rattle.mapf_optimum.specs.declared.together.place.Place.{Place}
use Rattle.mapf_optimum.specs.declared.together.place.Move.{Move}
use Rattle.mapf_optimum.specs.declared.together.steps.Terms.{Terms}
use Rattle.mapf_optimum.specs.declared.together.steps.To.{To}
use Rattle.mapf_optimum.specs.Together.{StandsAt, no_place, place_in}
use Rattle.mapf_optimum.specs.PlaceNumbers.{AgentKnown, AreAtKnown, AreAtNumbers, AreSame, GoesBy, GoesOnFrom, Grows, HasNumber, HaveGone, Known, cost_in, number_in}
use Rattle.mapf_optimum.proofs.JointLists.{still_known}
use Rattle.mapf_optimum.proofs.JointSums.{cost_behind, cost_front, cost_no_more, cost_when_gone}

-- what was known or in the list still is
pub at_known_still : (plan : List (List ℕ)) (places : List AgentKnown) (old new : Known) (few more : List (List ℕ)) (time : ℕ) → Grows old new → ((x : List ℕ) → Contains few x → Contains more x) →
    AreAtKnown plan places old few time → AreAtKnown plan places new more time
at_known_still plan places old new few more time grows keeps at = (at.0, ⊎_elim (λ k. inl (still_known old new at.0 grows k)) (λ i. inr (keeps at.0 i)) at.1, at.2)

-- nothing changes
pub same_none : (count : ℕ) (old new : To) → new ≡ old → AreSame count old new
same_none count old new same = record { numbers = λ i l. ap (λ (t : To). number_in t.numbers i) same; joint = λ i l. ap (λ (t : To). place_in t.joint i) same }

pub same_both : (count : ℕ) (a b c : To) → AreSame count a b → AreSame count b c → AreSame count a c
same_both count a b c h k = record { numbers = λ i l. k.numbers i l ∙ h.numbers i l; joint = λ i l. k.joint i l ∙ h.joint i l }

-- nothing changes before one that is written
pub same_set : (agent : ℕ) (old new : To) (move : Move) → new.numbers ≡ set old.numbers agent move.number → new.joint ≡ set old.joint agent move.place → AreSame agent old new
same_set agent old new move numbers joint = record {
  numbers = λ i l. ap (λ n. number_in n i) numbers ∙ get_or-set_other old.numbers agent i move.number 0 (λ e. omega (arith, e, l));
  joint = λ i l. ap (λ j. place_in j i) joint ∙ get_or-set_other old.joint agent i move.place no_place (λ e. omega (arith, e, l));
}

module _ (plan : List (List ℕ)) (terms : Terms) (places : List AgentKnown) (numbers : List ℕ) (from : List Place) (now : ℕ) (goes : GoesOnFrom plan terms places numbers from now) where
  -- where they have gone on to is the same
  pub gone_same : (agent cost_so : ℕ) (old new : To) → AreSame agent old new → HaveGone plan places from old agent cost_so (now + 1) → HaveGone plan places from new agent cost_so (now + 1)
  gone_same agent cost_so old new same gone = record {
    there = λ i l. subst (StandsAt (path_of plan i) (now + 1)) (sym (same.joint i l)) (gone.there i l);
    numbered = λ i known l is. subst₂ (λ n p. HasNumber known n p (now + 1)) (sym (same.numbers i l)) (sym (same.joint i l)) (gone.numbered i known l is);
    costs = gone.costs;
  }

  module _ (agent cost_so : ℕ) (inside : agent < length places) (old : To) (gone : HaveGone plan places from old agent cost_so (now + 1)) (move : Move)
      (by : GoesBy plan places agent move (now + 1)) where
    -- what the others' paths leave
    pub most : ℕ
    most = sum_by cost (take agent plan) + cost_in (drop (agent + 1) (take (length places) from))

    pub most_is : cost_so ≤ sum_by cost (take agent plan) + cost_in (drop (agent + 1) (take (length places) from)) + (place_in from agent).cost
    most_is = omega (arith, gone.costs, cost_front plan (length places) from goes.is.agents agent inside)

    -- what a plan costs at least, where this one goes on, too
    pub cost_then : (sum : ℕ) → sum ≤ sum_by cost (take agent plan) + cost_in (drop (agent + 1) (take (length places) from)) + move.place.cost → sum ≤ cost_when_gone plan (length places) (agent + 1) from
    cost_then sum l = omega (arith, l, by.stands.pays, cost_behind plan (length places) from goes.is.agents agent inside)

    -- is within the total
    pub cost_within : (sum : ℕ) → sum ≤ cost_when_gone plan (length places) (agent + 1) from → sum ≤ terms.total
    cost_within sum l =
        let all = cost_no_more plan (length places) from goes.is.agents (λ i h. (goes.here i h).pays) (length places - (agent + 1)) (agent + 1) (omega (arith, inside)) in
        omega (arith, l, all, goes.is.within)

    -- it has gone on, too
    pub gone_by : (new : To) (sum : ℕ) → length places ≤ length old.joint → length places ≤ length old.numbers → new.numbers ≡ set old.numbers agent move.number → new.joint ≡ set old.joint agent move.place →
        sum ≤ cost_when_gone plan (length places) (agent + 1) from → HaveGone plan places from new (agent + 1) sum (now + 1)
    gone_by new sum long_joint long_numbers numbers_are joint_is costs = record {
      there = λ i l. either i l (StandsAt (path_of plan i) (now + 1) (place_in new.joint i))
          (λ h. subst (StandsAt (path_of plan i) (now + 1)) (sym (before.joint i h)) (gone.there i h))
          (λ e. subst (λ k. StandsAt (path_of plan k) (now + 1) (place_in new.joint k)) e (subst (StandsAt (path_of plan agent) (now + 1)) (sym place_is) by.stands));
      numbered = λ i known l is. either i l (HasNumber known (number_in new.numbers i) (place_in new.joint i) (now + 1))
          (λ h. subst₂ (λ n p. HasNumber known n p (now + 1)) (sym (before.numbers i h)) (sym (before.joint i h)) (gone.numbered i known h is))
          (λ e. subst (λ k. HasNumber known (number_in new.numbers k) (place_in new.joint k) (now + 1)) e
          (subst₂ (λ n p. HasNumber known n p (now + 1)) (sym number_is) (sym place_is) (by.numbered known (ap (slice_get places) e ∙ is))));
      costs = costs;
    }
      where
        before : AreSame agent old new
        before = same_set agent old new move numbers_are joint_is

        place_is : place_in new.joint agent ≡ move.place
        place_is = ap (λ j. place_in j agent) joint_is ∙ get_or-set_same old.joint agent move.place no_place (omega (arith, inside, long_joint))

        number_is : number_in new.numbers agent ≡ move.number
        number_is = ap (λ n. number_in n agent) numbers_are ∙ get_or-set_same old.numbers agent move.number 0 (omega (arith, inside, long_numbers))

        either : (i : ℕ) → i < agent + 1 → (P : Type 0) → (i < agent → P) → (agent ≡ i → P) → P
        either i l P less same = ⊎_elim less (λ h. same (omega (arith, h, l))) (cases_lt i agent)

  -- where all have gone on, they are there
  pub all_gone : (gone_so cost_so : ℕ) (to : To) → length places ≤ gone_so → HaveGone plan places from to gone_so cost_so (now + 1) → AreAtNumbers plan places (now + 1) to.numbers
  all_gone gone_so cost_so to all gone i known is =
      let l : i < length places = slice_get_within places i known is in
      let h : i < gone_so = omega (arith, l, all) in
      (place_in to.joint i, gone.numbered i known h is, gone.there i h)
