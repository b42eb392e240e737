-- A search backwards at one cost after another.
use Rattle.std.proofs.Common.{◌≡◌, ℕ, zero, suc, ◌<◌, ◌≤◌, ◌+◌, List, max, Some, None, MatchOption, subst, arith}
use Rattle.mapf_grid.proofs.Decide.{up_to}
use Rattle.mapf_plan.specs.Path.{cost}
use Rattle.mapf_low.specs.Backwards.Tracing.{CanBe, HasNoneBefore}
use Rattle.mapf_low.specs.Constraints.{IsAllowed}
use Rattle.mapf_low.specs.OwnPath.{IsOwnPath}
use Rattle.mapf_low.specs.Backwards.Earliest.{HasEarliest}
use Rattle.mapf_low.specs.Query.{Query, IsPosed, MayEnd}
use Rattle.mapf_low.specs.Reached.{EndsAt, IsReconstructed}
use Rattle.mapf_low.specs.Walk.{distance_at}
use Rattle.mapf_low.proofs.Arrivals.{is_allowed, own_path, none_arrives}
use Rattle.mapf_low.proofs.backwards.OutOfReach.{can_be_at, can_covering, trail}

module _ (query : Query) (posed : IsPosed query) (earliest : HasEarliest query) where
  -- nor at one cost more
  pub none_more : (end : ℕ) → HasNoneBefore query end → (end ≤ query.bound → ¬ EndsAt query (CanBe query) end) → HasNoneBefore query (end + 1)
  none_more end before not t l = up_to (λ k. k ≤ query.bound → ¬ EndsAt query (CanBe query) k) end t l (before t) not

  -- the list of steps that ends first is an allowed path
  first_costs : (least : ℕ) → ((p : List ℕ) → IsAllowed query.grid query.start query.goal query.bound query.constraints p → least ≤ cost p) → (end : ℕ) → end < least → HasNoneBefore query end → end ≤ query.bound → ¬ EndsAt query (CanBe query) end
  first_costs least bounds end l before within arrives =
      let r = trail query end arrives.0 in
      let ok =
      is_allowed query query.bound (CanBe query) (end + 1) (can_covering query query.bound (end + 1) posed) end r.0 (omega arith) within r.1 arrives
      (λ s j. before s j (omega (arith, j, within))) in
      omega (arith, bounds r.0 ok, r.1.long, l)

  -- so none does before what each allowed path costs at least
  none_cheaper : (least : ℕ) → ((p : List ℕ) → IsAllowed query.grid query.start query.goal query.bound query.constraints p → least ≤ cost p) → (n : ℕ) → n ≤ least → HasNoneBefore query n
  none_cheaper least bounds zero l = λ t m. absurd (omega (arith, m))
  none_cheaper least bounds (suc n) l =
      let before : HasNoneBefore query n = none_cheaper least bounds n (omega (arith, l)) in
      subst (HasNoneBefore query) (let e : n + 1 ≡ suc n = omega arith in e) (none_more n before (first_costs least bounds n (omega (arith, l)) before))

  -- an allowed path costs at least what the table has for the goal
  costs_entry : (p : List ℕ) → IsAllowed query.grid query.start query.goal query.bound query.constraints p → MatchOption (distance_at query.table query.goal) ⊥ (λ n. n ≤ cost p)
  costs_entry p a = earliest.bounds (cost p) query.goal a.within (subst (CanBe query (cost p)) a.path.ends (can_be_at query query.bound p a (cost p) (omega arith)))

  -- so none does before the greater of the two
  pub none_before : (least entry : ℕ) → distance_at query.table query.goal ≡ Some entry → ((p : List ℕ) → IsAllowed query.grid query.start query.goal query.bound query.constraints p → least ≤ cost p) → HasNoneBefore query (max least entry)
  none_before least entry is bounds = none_cheaper (max least entry) both (max least entry) (omega arith)
    where
      both : (p : List ℕ) → IsAllowed query.grid query.start query.goal query.bound query.constraints p → max least entry ≤ cost p
      both p a = omega (arith, bounds p a, subst (λ o. MatchOption o ⊥ (λ n. n ≤ cost p)) is (costs_entry p a))

  -- and where it has nothing there is no path
  pub none_far : distance_at query.table query.goal ≡ None → (p : List ℕ) → ¬ IsAllowed query.grid query.start query.goal query.bound query.constraints p
  none_far is p a = subst (λ o. MatchOption o ⊥ (λ n. n ≤ cost p)) is (costs_entry p a)

  -- what was found at the first cost at which the path may end is the own path
  pub found_first : (end : ℕ) (q : List ℕ) → end ≤ query.bound → MayEnd query end → HasNoneBefore query end → IsReconstructed query (CanBe query) q 0 end × CanBe query end query.goal →
      IsOwnPath query.grid query.start query.goal query.bound query.constraints q
  found_first end q within ends before h =
      own_path query query.bound (CanBe query) (end + 1) (can_covering query query.bound (end + 1) posed) end q (omega arith) within h.0 (h.1, ends) (λ t l. before t l (omega (arith, l, within)))

  -- past the bound there is none
  pub none_within : (end : ℕ) → query.bound < end → HasNoneBefore query end → (p : List ℕ) → ¬ IsAllowed query.grid query.start query.goal query.bound query.constraints p
  none_within end past before =
      none_arrives query query.bound (CanBe query) (query.bound + 1) (can_covering query query.bound (query.bound + 1) posed) (omega arith) (λ t l. before t (omega (arith, l, past)) (omega (arith, l)))
