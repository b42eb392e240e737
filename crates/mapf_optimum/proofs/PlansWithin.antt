-- What is known of the places of a plan's agents.
use Rattle.std.proofs.Common.{◌≡◌, ◌≢◌, ℕ, zero, suc, ◌+◌, ◌<◌, ◌≤◌, ◌^◌, List, [], ◌∷◌, ◌++◌, length, set, sum_by, Some, subst, subst₂, sym, refl, ap, ◌∙◌, ⊎_elim, arith}
use Rattle.std.specs.Prelude.{slice_get}
use Rattle.std.proofs.Math.ListN.{length-set}
use native.Mathlib.Decide.{ℕ_discrete}
use Rattle.mapf_grid.proofs.Decide.{by_cases}
use Rattle.std.proofs.lemmas.Option.{none-some, same_Some, slice_get_within}
use Rattle.std.proofs.lemmas.List.{length_push}
use Rattle.std.proofs.lemmas.List.Sums.{get_or-le-sum_by, sum_by-cons}
use Rattle.mapf_plan.specs.Path.{cost}
use Rattle.mapf_plan.specs.Plan.{path_of, plan_cost}
use Rattle.mapf_plan.specs.declared.rule.Rule.{Rule}
use Rattle.mapf_optimum.specs.declared.together.place.Place.{Place}
use Rattle.mapf_optimum.specs.declared.together.steps.Terms.{Terms}
use Rattle.mapf_optimum.specs.Together.{Agent, AreAt, ArePlan, IsPlanOf, StandsAt, place_in}
use Rattle.mapf_optimum.specs.PlaceNumbers.{AgentKnown, AllBegin, AllFound, AllGetMore, AllLookedOn, AreAtNumbers, AreKnownOf, AreLookedOn, AreNumbered, BeginsWithin, GetsMore, GoesOnFrom, LeadOn, number_in}
use Rattle.mapf_optimum.proofs.JointLists.{got_after, got_last}
use Rattle.mapf_optimum.proofs.JointSearch.{reads, same_place}
use Rattle.mapf_optimum.proofs.Looks.{set_before, set_there}

-- what paths cost at least comes to no more than what they cost
least_sum : (agents : List Agent) (plan : List (List ℕ)) → length plan ≡ length agents → ((i : ℕ) (a : Agent) → slice_get agents i ≡ Some a → a.least ≤ cost (path_of plan i)) →
    sum_by (λ (a : Agent). a.least) agents ≤ plan_cost plan
least_sum [] plan long each = omega arith
least_sum (a ∷ rest) [] long each = absurd (omega (arith, long))
least_sum (a ∷ rest) (p ∷ ps) long each =
    let first : a.least ≤ cost p = each 0 a refl in
    omega (arith, first, sum_by-cons (λ (b : Agent). b.least) a rest, sum_by-cons cost p ps, least_sum rest ps (omega (arith, long)) (λ i b is. each (suc i) b is))

-- what one of them may cost beyond that
pub least_others : (agents : List Agent) (plan : List (List ℕ)) → length plan ≡ length agents → ((i : ℕ) (a : Agent) → slice_get agents i ≡ Some a → a.least ≤ cost (path_of plan i)) →
    (i : ℕ) (a : Agent) → slice_get agents i ≡ Some a → sum_by (λ (b : Agent). b.least) agents + cost (path_of plan i) ≤ plan_cost plan + a.least
least_others [] plan long each i a is = absurd (none-some a is)
least_others (b ∷ bs) [] long each i a is = absurd (omega (arith, long))
least_others (b ∷ bs) (p ∷ ps) long each zero a is =
    let same : b ≡ a = same_Some b a is in
    let here : cost (path_of (p ∷ ps) 0) ≡ cost p = refl in
    omega (arith, here, sum_by-cons (λ (d : Agent). d.least) b bs, sum_by-cons cost p ps, least_sum bs ps (omega (arith, long)) (λ i d h. each (suc i) d h), ap (λ (d : Agent). d.least) same)
least_others (b ∷ bs) (p ∷ ps) long each (suc i) a is =
    let first : b.least ≤ cost p = each 0 b refl in
    let there : cost (path_of (p ∷ ps) (suc i)) ≡ cost (path_of ps i) = refl in
    omega (arith, first, there, sum_by-cons (λ (d : Agent). d.least) b bs, sum_by-cons cost p ps, least_others bs ps (omega (arith, long)) (λ k d h. each (suc k) d h) i a is)

-- nothing is known of no agents
pub known_none : (bound : ℕ) → AreKnownOf [] bound []
known_none bound = record { each = refl; begins = λ i agent known h is. absurd (none-some agent h); looked = λ i agent known h is. absurd (none-some agent h) }

-- one more
pub known_more : (agents : List Agent) (bound : ℕ) (places : List AgentKnown) (agent : Agent) (known : AgentKnown) → AreKnownOf agents bound places → BeginsWithin agent bound known → AreLookedOn agent known →
    AreKnownOf (agents ++ agent ∷ []) bound (places ++ known ∷ [])
known_more agents bound places agent known are begins looked = record {
  each = omega (arith, length_push agents agent, length_push places known, are.each);
  begins = λ i a k h is. either i a k h is (BeginsWithin a bound k) (λ there at. are.begins i a k there at) (λ e f. subst₂ (λ a k. BeginsWithin a bound k) e f begins);
  looked = λ i a k h is. either i a k h is (AreLookedOn a k) (λ there at. are.looked i a k there at) (λ e f. subst₂ AreLookedOn e f looked);
}
  where
    either : (i : ℕ) (a : Agent) (k : AgentKnown) → slice_get (agents ++ agent ∷ []) i ≡ Some a → slice_get (places ++ known ∷ []) i ≡ Some k → (P : Type 0) →
        (slice_get agents i ≡ Some a → slice_get places i ≡ Some k → P) → (agent ≡ a → known ≡ k → P) → P
    either i a k h is P old new =
        ⊎_elim
        (λ there. ⊎_elim (λ at. old there at) (λ e. absurd (let l : i < length agents = slice_get_within agents i a there in omega (arith, l, e, are.each))) (got_after places known i k is))
        (λ e. new (same_Some agent a (sym (got_last agents agent) ∙ ap (slice_get (agents ++ agent ∷ [])) (sym e) ∙ h))
        (same_Some known k (sym (got_last places known) ∙ ap (slice_get (places ++ known ∷ [])) (are.each ∙ sym e) ∙ is)))
        (got_after agents agent i a h)

-- places get more, and what was looked for was found
pub known_still : (agents : List Agent) (bound : ℕ) (old new : List AgentKnown) → AllGetMore old new → AllFound agents new → AreKnownOf agents bound old → AreKnownOf agents bound new
known_still agents bound old new more found are = record {
  each = more.each ∙ are.each;
  begins = λ i agent known h is p path cheap.
      let k = reads old i (let l : i < length new = slice_get_within new i known is in omega (arith, l, more.each)) in
      let gets = more.more i k.0 known k.1 is in
      let b = are.begins i agent k.0 h k.1 p path cheap in
      (b.0, omega (arith, b.1, gets.first), (b.2.0, gets.all b.0 _ b.2.1, b.2.2));
  looked = found;
}

-- one agent's places get more
module _ (old : List AgentKnown) (agent : ℕ) (before after : AgentKnown) (got : slice_get old agent ≡ Some before) where
  inside : agent < length old
  inside = slice_get_within old agent before got

  -- an agent's are new, or were so
  pub either_known : (i : ℕ) (known : AgentKnown) (P : Type 0) → slice_get (set old agent after) i ≡ Some known → (agent ≡ i → after ≡ known → P) → (agent ≢ i → slice_get old i ≡ Some known → P) → P
  either_known i known P is new same =
      by_cases (ℕ_discrete agent i) (λ e. new e (same_Some after known (sym (set_there old agent after inside) ∙ ap (slice_get (set old agent after)) e ∙ is)))
      (λ other. same other (set_before old agent after i known other is))

  pub more_set : (first : List AgentKnown) → GetsMore before after → AllGetMore first old → AllGetMore first (set old agent after)
  more_set first gets more = record {
    each = let same : length (set old agent after) ≡ length old = simp length-set in same ∙ more.each;
    more = λ i a b h is. either_known i b (GetsMore a b) is
        (λ e f.
        let m = more.more i a before h (ap (slice_get old) (sym e) ∙ got) in
        subst (GetsMore a) f (record { all = λ n x k. gets.all n x (m.all n x k); first = gets.first ∙ m.first }))
        (λ other k. more.more i a b h k);
  }

module _ (rule : Rule) (agents : List Agent) (total : ℕ) (plan : List (List ℕ)) (is : IsPlanOf rule agents total plan) where
  -- no path costs more than all
  pub path_within : (i : ℕ) → i < length agents → cost (path_of plan i) ≤ total
  path_within i l = let one : cost (path_of plan i) ≤ plan_cost plan = get_or-le-sum_by cost plan i [] (omega (arith, l, is.0.agents)) in omega (arith, one, is.0.within)

  -- all begin at one of their first places
  pub all_begin : (bound : ℕ) (places : List AgentKnown) → total ≤ bound → AreKnownOf agents bound places → AllBegin plan places
  all_begin bound places within are i known at =
      let l : i < length agents = (let h : i < length places = slice_get_within places i known at in omega (arith, h, are.each)) in
      let a = reads agents i l in
      are.begins i a.0 known a.1 at (path_of plan i) (is.1 i a.0 a.1) (omega (arith, path_within i l, within))

  -- the plan goes on from a joint place by the moves that were looked for
  pub goes_from : (terms : Terms) (places : List AgentKnown) (numbers mosts : List ℕ) (joint : List Place) (time : ℕ) → rule ≡ terms.rule → total ≡ terms.total → length places ≡ length agents →
      AllLookedOn agents places numbers mosts → ((i : ℕ) → i < length agents → cost (path_of plan i) ≤ number_in mosts i) → time + 1 < 2 ^ 32 → AreNumbered places numbers joint →
      AreAtNumbers plan places time numbers → GoesOnFrom plan terms places numbers joint time
  goes_from terms places numbers mosts joint time same sum long looked mosts_are fits numbered at = record {
    is = subst (λ n. ArePlan terms.rule (length places) n plan) sum (subst₂ (λ r n. ArePlan r n total plan) same (sym long) is.0);
    here = here;
    leads = leads;
  }
    where
      here : AreAt plan (length places) time joint
      here i h =
          let a = reads places i h in
          let x = at i a.0 a.1 in
          let y = numbered i a.0 a.1 in
          subst (StandsAt (path_of plan i) time) (same_place a.0 (number_in numbers i) time y.0 x.0 (place_in joint i) x.1 y.1).0 x.2

      leads : LeadOn plan places (time + 1) numbers
      leads i known there =
          let l : i < length agents = (let h : i < length places = slice_get_within places i known there in omega (arith, h, long)) in
          let a = reads agents i l in
          looked i a.0 known a.1 there (path_of plan i) time (is.1 i a.0 a.1) (omega (arith, mosts_are i l)) fits (at i known there)
