-- Searches of joint places: what one turn keeps, and what is known where none waits.
use Rattle.std.proofs.Common.{◌≡◌, ◌⊎◌, ℕ, zero, suc, ◌+◌, ◌<◌, ◌≤◌, Bool, true, false, List, [], length, Some, subst, subst₂, sym, refl, ap, ◌∙◌, ⊎_elim, inl, inr, arith}
use Rattle.std.specs.Prelude.{slice_get, Contains}
use Rattle.std.proofs.lemmas.Bool.{cases_lt}
use Rattle.std.proofs.lemmas.Option.{same_Some, slice_get_cases, slice_get_within}
use Rattle.std.proofs.lemmas.List.Elements.{Contains-push_cases}
use Rattle.std.proofs.lemmas.List.Sums.{get_or-le-sum_by}
use Rattle.mapf_plan.specs.Path.{cost}
use Rattle.mapf_plan.specs.Plan.{path_of, plan_cost}
use Rattle.mapf_plan.specs.declared.rule.Rule.{Rule}
use Rattle.mapf_optimum.specs.declared.together.place.Place.{Place}
use Rattle.mapf_optimum.specs.declared.together.place.PlaceAt.{PlaceAt}
use Rattle.mapf_optimum.specs.Together.{Agent, IsPlanOf, StandsAt, place_in}
use Rattle.mapf_optimum.specs.PlaceNumbers.{AgentKnown, AllGetMore, AreAtKnown, AreAtNumbers, AreHome, AreNumbered, Grows, HasNumber, IsGoneOnFrom, IsSearched, IsTakenFrom, Known, number_in}

-- what is inside a list is read there
pub reads : {X : Type 0} (xs : List X) (i : ℕ) → i < length xs → (x : X) × (slice_get xs i ≡ Some x)
reads xs i l = ⊎_elim (λ h. (h.0, h.2)) (λ h. absurd (omega (arith, l, h.0))) (slice_get_cases xs i).1

-- one that is at a number is at its place
pub same_place : (known : AgentKnown) (n time then : ℕ) (x y : Place) → HasNumber known n x time → HasNumber known n y then → (x ≡ y) × (time ≡ then)
same_place known n time then x y h k =
    let a : PlaceAt = record { place = x; time = time } in
    let b : PlaceAt = record { place = y; time = then } in
    let same : a ≡ b = same_Some a b (sym h ∙ k) in
    (ap (λ (p : PlaceAt). p.place) same, ap (λ (p : PlaceAt). p.time) same)

-- the places get more
module _ (plan : List (List ℕ)) (old new : List AgentKnown) (more : AllGetMore old new) where
  was : (i : ℕ) (known : AgentKnown) → slice_get new i ≡ Some known → (k : AgentKnown) × (slice_get old i ≡ Some k)
  was i known is = reads old i (let l : i < length new = slice_get_within new i known is in omega (arith, l, more.each))

  will : (i : ℕ) (known : AgentKnown) → slice_get old i ≡ Some known → (k : AgentKnown) × (slice_get new i ≡ Some k)
  will i known is = reads new i (let l : i < length old = slice_get_within old i known is in omega (arith, l, more.each))

  pub at_still : (time : ℕ) (numbers : List ℕ) → AreAtNumbers plan old time numbers → AreAtNumbers plan new time numbers
  at_still time numbers at i known is =
      let k = was i known is in
      let x = at i k.0 k.1 in
      (x.0, (more.more i k.0 known k.1 is).all (number_in numbers i) _ x.1, x.2)

  pub numbered_still : (numbers : List ℕ) (joint : List Place) → AreNumbered old numbers joint → AreNumbered new numbers joint
  numbered_still numbers joint are i known is =
      let k = was i known is in
      let x = are i k.0 k.1 in
      (x.0, (more.more i k.0 known k.1 is).all (number_in numbers i) _ x.1)

  pub at_before : (time : ℕ) (numbers : List ℕ) (joint : List Place) → AreNumbered old numbers joint → AreAtNumbers plan new time numbers → AreAtNumbers plan old time numbers
  at_before time numbers joint are at i known is =
      let k = will i known is in
      let x = at i k.0 k.1 in
      let y = are i known is in
      let there : HasNumber k.0 (number_in numbers i) (place_in joint i) y.0 = (more.more i known k.0 is k.1).all (number_in numbers i) _ y.1 in
      let same = same_place k.0 (number_in numbers i) y.0 time (place_in joint i) x.0 there x.1 in
      (x.0, subst₂ (λ p t. HasNumber known (number_in numbers i) p t) same.0 same.1 y.1, x.2)

-- one turn: the last one that waited is taken out, and it is gone on from there
module _ (plan : List (List ℕ)) (before after : List AgentKnown) (more : AllGetMore before after) (old taken new : Known) (number : ℕ) (numbers : List ℕ) (joint : List Place) (was : IsSearched plan before old)
    (out : IsTakenFrom old (Some number) taken) (here : slice_get taken.all number ≡ Some numbers) (numbered : AreNumbered before numbers joint) (away : ¬ AreHome (length before) joint) (grows : Grows taken new)
    (next : (time : ℕ) → time < plan_cost plan → AreAtNumbers plan after time numbers → AreAtKnown plan after new [] (time + 1)) where
  known_still : (time : ℕ) → AreAtKnown plan before old [] time → AreAtKnown plan after new [] time
  known_still time at = (
    at.0,
    ⊎_elim (λ k. inl (k.0, grows.keeps k.0 at.0 (subst (λ all. slice_get all k.0 ≡ Some at.0) (sym out.0) k.1))) (λ i. inr i) at.1,
    at_still plan before after more time at.0 at.2,
  )

  -- it waits still, or it is the one that was taken out
  waits : (n : ℕ) → Contains old.waiting n → Contains new.waiting n ⊎ (number ≡ n)
  waits n has = ⊎_elim (λ l. inl (grows.waits n l)) (λ e. inr e) (Contains-push_cases taken.waiting number n (subst (λ w. Contains w n) out.1 has))

  same_length : (j : List Place) → ¬ AreHome (length before) j → ¬ AreHome (length after) j
  same_length j not home = not (subst (λ n. AreHome n j) more.each home)

  gone_still : (ns : List ℕ) → IsGoneOnFrom plan before old ns → IsGoneOnFrom plan after new ns
  gone_still ns gone = record {
    joint = gone.joint;
    numbered = numbered_still plan before after more ns gone.joint gone.numbered;
    away = same_length gone.joint gone.away;
    next = λ time l at. known_still (time + 1) (gone.next time l (at_before plan before after more time ns gone.joint gone.numbered at));
  }

  gone_now : IsGoneOnFrom plan after new numbers
  gone_now = record { joint = joint; numbered = numbered_still plan before after more numbers joint numbered; away = same_length joint away; next = next }

  goes_on : (n : ℕ) (ns : List ℕ) → slice_get new.all n ≡ Some ns → Contains new.waiting n ⊎ IsGoneOnFrom plan after new ns
  goes_on n ns is =
      ⊎_elim
      (λ had.
      ⊎_elim
      (λ w. ⊎_elim (λ l. inl l) (λ e. inr (subst (IsGoneOnFrom plan after new) (same_Some numbers ns (sym here ∙ ap (slice_get taken.all) e ∙ had)) gone_now)) (waits n w))
      (λ gone. inr (gone_still ns gone))
      (was.goes_on n ns (subst (λ all. slice_get all n ≡ Some ns) out.0 had)))
      (λ w. inl w) (grows.fresh n ns is)

  pub turn : IsSearched plan after new
  turn = record { begins = known_still 0 was.begins; goes_on = goes_on }

-- nothing is in an empty list
none_waits : (waiting : List ℕ) (n : ℕ) → waiting ≡ [] → Contains waiting n → ⊥
none_waits waiting n e has = let w = subst (λ l. Contains l n) e has in omega (arith, w.1)

-- where none waits, each time step has a joint place at which the plan is
module _ (plan : List (List ℕ)) (places : List AgentKnown) (known : Known) (was : IsSearched plan places known) (done : known.waiting ≡ []) where
  gone_on : (time : ℕ) (at : AreAtKnown plan places known [] time) → IsGoneOnFrom plan places known at.0
  gone_on time at =
      ⊎_elim (λ k. ⊎_elim (λ w. absurd (none_waits known.waiting k.0 done w)) (λ g. g) (was.goes_on k.0 at.0 k.1)) (λ i. absurd (omega (arith, i.1))) at.1

  each_time : (t : ℕ) → t ≤ plan_cost plan → AreAtKnown plan places known [] t
  each_time zero l = was.begins
  each_time (suc t) l =
      let there = each_time t (omega (arith, l)) in
      subst (AreAtKnown plan places known []) (omega arith) ((gone_on t there).next t (omega (arith, l)) there.2)

  -- one who isn't home costs more
  is_home : (time : ℕ) (p : List ℕ) (place : Place) → StandsAt p time place → cost p ≤ time → place.is_home ≡ true
  is_home time p place stands l = home place.is_home refl
    where
      home : (b : Bool) → place.is_home ≡ b → place.is_home ≡ true
      home true e = e
      home false e = absurd (omega (arith, l, stands.away e))

  -- so it ends at one at which all have arrived, and that can't be
  pub no_plan : (rule : Rule) (agents : List Agent) (total : ℕ) → length places ≡ length agents → IsPlanOf rule agents total plan → ⊥
  no_plan rule agents total size is = gone.away home
    where
      end : AreAtKnown plan places known [] (plan_cost plan)
      end = each_time (plan_cost plan) (omega arith)

      gone : IsGoneOnFrom plan places known end.0
      gone = gone_on (plan_cost plan) end

      home : AreHome (length places) gone.joint
      home i l =
          let k = reads places i l in
          let x = end.2 i k.0 k.1 in
          let y = gone.numbered i k.0 k.1 in
          let same = same_place k.0 (number_in end.0 i) (plan_cost plan) y.0 x.0 (place_in gone.joint i) x.1 y.1 in
          ap (λ (p : Place). p.is_home) (sym same.0)
          ∙ is_home (plan_cost plan) (path_of plan i) x.0 x.2 (get_or-le-sum_by cost plan i [] (omega (arith, l, size, is.0.agents)))

-- where no plan costs a total at most, each costs one more at least
pub one_more : (rule : Rule) (agents : List Agent) (least : ℕ) → ((plan : List (List ℕ)) → ¬ IsPlanOf rule agents least plan) →
    (plan : List (List ℕ)) (total : ℕ) → IsPlanOf rule agents total plan → least + 1 ≤ plan_cost plan
one_more rule agents least none plan total is =
    ⊎_elim (λ h. omega (arith, h)) (λ h. absurd (none plan (record { agents = is.0.agents; apart = is.0.apart; within = h }, is.1)))
    (cases_lt least (plan_cost plan))
