-- The path that is read back through the places of allowed paths is an agent's own path.
use Rattle.std.proofs.Common.{◌≡◌, ◌≢◌, ◌⊎◌, ℕ, ◌<◌, ◌≤◌, ◌+◌, ◌-◌, List, length, slice_index, Contains, inl, inr, subst, subst₂, sym, ap, ◌∙◌, ⊎_elim, All, arith, refl}
use Rattle.std.proofs.lemmas.Bool.{cases_lt}
use Rattle.std.proofs.lemmas.List.Elements.{All-contains}
use native.Mathlib.Decide.{ℕ_discrete}
use Rattle.mapf_grid.specs.Grid.{IsFree}
use Rattle.mapf_grid.specs.Least.{Precedes}
use Rattle.mapf_grid.proofs.Decide.{by_cases, up_to}
use Rattle.mapf_plan.specs.Path.{cost, at, IsPath}
use Rattle.mapf_plan.proofs.Paths.{at_inside, at_past}
use Rattle.mapf_low.specs.Query.{Query, MayEnd}
use Rattle.mapf_low.specs.declared.constraint.Constraint.{Constraint}
use Rattle.mapf_low.specs.declared.constraint.Constraint.TheVariants.{Vertex, Edge}
use Rattle.mapf_low.specs.Constraints.{Breaks, IsAllowed}
use Rattle.mapf_low.specs.OwnPath.{IsOwnPath, path_rank, IsSmallerAtLast}
use Rattle.mapf_low.specs.Kept.{HasTwoEnds}
use Rattle.mapf_low.specs.Reached.{MayStep, ComesFrom, EndsAt, IsReconstructed}
use Rattle.mapf_low.proofs.ByLast.{order_is_by_last}
use Rattle.mapf_low.proofs.Places.{obeys_each, obeys_from_each}

-- for so many time steps: each place of each allowed path is reached, at time 0 the start alone, and nothing that is forbidden
pub record IsCovering (query : Query) (bound : ℕ) (At : ℕ → ℕ → Type 0) (count : ℕ) : Type 0 where
  pub start : IsFree query.grid query.start
  pub ends : All HasTwoEnds query.constraints
  pub covers : (p : List ℕ) → IsAllowed query.grid query.start query.goal bound query.constraints p → (t : ℕ) → t ≤ cost p → t < count → At t (at p t)
  pub first : (v : ℕ) → At 0 v → v ≡ query.start
  pub allowed : (t v : ℕ) → t < count → At t v → ¬ Contains query.constraints (Vertex v t)

-- a list of cells that are reached, which ends on the goal; each may be entered from the one before
pub record IsTrail (query : Query) (At : ℕ → ℕ → Type 0) (q : List ℕ) (end : ℕ) : Type 0 where
  pub long : length q ≡ end + 1
  pub ends : slice_index q end ≡ query.goal
  pub back : (t : ℕ) → t < end → ComesFrom query (t + 1) (At t) (slice_index q (t + 1)) (slice_index q t)

-- each step of an allowed path may be made
pub step_at : (query : Query) (bound : ℕ) (p : List ℕ) → IsAllowed query.grid query.start query.goal bound query.constraints p → (t : ℕ) → t < cost p → MayStep query (t + 1) (at p t) (at p (t + 1))
step_at query bound p a t l = (
  a.path.steps t l,
  λ i. obeys_each query.constraints p a.obeys (Edge (at p t) (at p (t + 1)) (t + 1)) i (omega arith, ap (λ k. at p k) (let back : t + 1 - 1 ≡ t = omega arith in back), refl),
)

-- and the path may end when it does
may_end : (query : Query) (bound : ℕ) (p : List ℕ) → IsAllowed query.grid query.start query.goal bound query.constraints p → MayEnd query (cost p)
may_end query bound p a s l i = obeys_each query.constraints p a.obeys (Vertex query.goal s) i (at_past p s l ∙ a.path.ends)

module _ (query : Query) (bound : ℕ) (At : ℕ → ℕ → Type 0) (count : ℕ) (set : IsCovering query bound At count) where
  abbrev Allowed : List ℕ → Type 0
  Allowed p = IsAllowed query.grid query.start query.goal bound query.constraints p

  -- no allowed path costs less than the first arrival
  pub no_cheaper : (end : ℕ) → ((t : ℕ) → t < end → ¬ EndsAt query At t) → end ≤ count → (p : List ℕ) → Allowed p → end ≤ cost p
  no_cheaper end none long p a =
      ⊎_elim
      (λ l.
      let here : At (cost p) (at p (cost p)) = set.covers p a (cost p) (omega arith) (omega (arith, l, long)) in
      absurd (none (cost p) l (subst (λ c. At (cost p) c) a.path.ends here, may_end query bound p a)))
      (λ l. l) (cases_lt (cost p) end)

  module _ (end : ℕ) (q : List ℕ) (long : end < count) (within : end ≤ bound) (read : IsTrail query At q end) (arrives : EndsAt query At end) (first : (t : ℕ) → t < end → ¬ EndsAt query At t) where
    costs : cost q ≡ end
    costs = omega (arith, read.long)

    at_q : (t : ℕ) → t ≤ end → at q t ≡ slice_index q t
    at_q t l = at_inside q t (omega (arith, l, read.long))

    ends : at q end ≡ query.goal
    ends = at_q end (omega arith) ∙ read.ends

    -- its places are reached
    placed : (t : ℕ) → t ≤ end → At t (at q t)
    placed t l =
        up_to (λ k. At k (at q k)) end t (omega (arith, l))
        (λ m. subst (λ c. At t c) (sym (at_q t l)) (read.back t m).0) (subst (λ c. At end c) (sym ends) arrives.0)

    stepped : (t : ℕ) → t < end → MayStep query (t + 1) (at q t) (at q (t + 1))
    stepped t l = subst₂ (λ u v. MayStep query (t + 1) u v) (sym (at_q t (omega (arith, l)))) (sym (at_q (t + 1) (omega (arith, l)))) (read.back t l).1

    -- it isn't on the goal one step before its end
    moves_in : (t : ℕ) → t + 1 ≡ cost q → at q t ≢ query.goal
    moves_in t e there = first t (omega (arith, e, costs)) (here, free)
      where
        here : At t query.goal
        here = subst (λ c. At t c) there (placed t (omega (arith, e, costs)))

        free : MayEnd query t
        free s l =
            by_cases (ℕ_discrete t s)
            (λ same. subst (λ k. ¬ Contains query.constraints (Vertex query.goal k)) same (set.allowed t query.goal (omega (arith, e, costs, long)) here))
            (λ other. arrives.1 s (omega (arith, l, other, e, costs)))

    is_path : IsPath query.grid query.start query.goal q
    is_path = record {
      some = omega (arith, read.long);
      starts = set.first (at q 0) (placed 0 (omega arith));
      ends = ap (λ k. at q k) costs ∙ ends;
      free = set.start;
      steps = λ t l. (stepped t (omega (arith, l, costs))).0;
      arrives = moves_in;
    }

    kept : (c : Constraint) → Contains query.constraints c → ¬ Breaks q c
    kept (Vertex v t) i b = go (cases_lt end t)
      where
        go : (end < t) ⊎ (t ≤ end) → ⊥
        go (inl l) =
            let on_goal : query.goal ≡ v = sym (at_past q t (omega (arith, l, costs)) ∙ is_path.ends) ∙ b in
            arrives.1 t (omega (arith, l)) (subst (λ c. Contains query.constraints (Vertex c t)) (sym on_goal) i)
        go (inr l) = set.allowed t (at q t) (omega (arith, l, long)) (placed t l) (subst (λ c. Contains query.constraints (Vertex c t)) (sym b) i)
    kept (Edge u v t) i b = go (cases_lt end t)
      where
        go : (end < t) ⊎ (t ≤ end) → ⊥
        go (inl l) =
            let from : u ≡ query.goal = sym b.1 ∙ (at_past q (t - 1) (omega (arith, l, costs)) ∙ is_path.ends) in
            let to : v ≡ query.goal = sym b.2 ∙ (at_past q t (omega (arith, l, costs)) ∙ is_path.ends) in
            All-contains HasTwoEnds query.constraints (Edge u v t) set.ends i (from ∙ sym to)
        go (inr l) =
            let n : t - 1 + 1 ≡ t = omega (arith, b.0) in
            let forbidden : Contains query.constraints (Edge (at q (t - 1)) (at q t) t) = subst₂ (λ x y. Contains query.constraints (Edge x y t)) (sym b.1) (sym b.2) i in
            (stepped (t - 1) (omega (arith, l, b.0))).1 (subst (λ k. Contains query.constraints (Edge (at q (t - 1)) (at q k) k)) (sym n) forbidden)

    -- the list is an allowed path
    pub is_allowed : Allowed q
    is_allowed = record { path = is_path; within = omega (arith, costs, within); obeys = obeys_from_each query.constraints q kept }

    module _ (smallest : (t : ℕ) → t < end → (w : ℕ) → ComesFrom query (t + 1) (At t) (slice_index q (t + 1)) w → slice_index q t ≤ w) where
      -- where it first differs from behind, it has the smaller cell
      none_smaller : (y : List ℕ) → Allowed y → cost y ≡ cost q → ¬ IsSmallerAtLast y q
      none_smaller y a same s = go (cases_lt s.last end)
        where
          long_y : length y ≡ end + 1
          long_y = omega (arith, same, costs, a.path.some)

          at_y : (t : ℕ) → t ≤ end → at y t ≡ slice_index y t
          at_y t l = at_inside y t (omega (arith, l, long_y))

          go : (s.last < end) ⊎ (end ≤ s.last) → ⊥
          go (inr l) =
              let n : s.last ≡ end = omega (arith, l, s.inside, long_y) in
              let less : slice_index y end < slice_index q end = subst (λ k. slice_index y k < slice_index q k) n s.smaller in
              let y_ends : slice_index y end ≡ query.goal = sym (at_y end (omega arith)) ∙ (ap (λ k. at y k) (let e : end ≡ cost y = omega (arith, same, costs) in e) ∙ a.path.ends) in
              omega (arith, less, y_ends, read.ends)
          go (inl l) =
              let t : ℕ = s.last in
              let ahead : slice_index y (t + 1) ≡ slice_index q (t + 1) = s.same_later (t + 1) (omega arith) in
              let inside : At t (at y t) = set.covers y a t (omega (arith, l, same, costs)) (omega (arith, l, long)) in
              let step : MayStep query (t + 1) (at y t) (at y (t + 1)) = step_at query bound y a t (omega (arith, l, same, costs)) in
              let comes : ComesFrom query (t + 1) (At t) (at y (t + 1)) (at y t) = (inside, step) in
              let also : ComesFrom query (t + 1) (At t) (slice_index q (t + 1)) (slice_index y t) =
              subst₂ (λ v u. ComesFrom query (t + 1) (At t) v u) (at_y (t + 1) (omega (arith, l)) ∙ ahead) (at_y t (omega (arith, l))) comes in
              let least : slice_index q t ≤ slice_index y t = smallest t l (slice_index y t) also in
              omega (arith, least, s.smaller)

      -- and no allowed path comes before it
      least_own : IsOwnPath query.grid query.start query.goal bound query.constraints q
      least_own = record { member = is_allowed; least = least }
        where
          least : (y : List ℕ) → Allowed y → ¬ Precedes (path_rank y) (path_rank q)
          least y a (inl h) = omega (arith, h, costs, no_cheaper end first (omega (arith, long)) y a)
          least y a (inr h) = none_smaller y a h.0 ((order_is_by_last y q (omega (arith, h.0, a.path.some, is_path.some))).0 h.1)

  -- a list that is read back by the smallest earlier cell is the own path
  pub own_path : (end : ℕ) (q : List ℕ) → end < count → end ≤ bound → IsReconstructed query At q 0 end → EndsAt query At end → ((t : ℕ) → t < end → ¬ EndsAt query At t) →
      IsOwnPath query.grid query.start query.goal bound query.constraints q
  own_path end q long within read arrives first =
      least_own end q long within (record { long = read.long; ends = read.ends; back = λ t l. (read.back t (omega arith) l).comes }) arrives first (λ t l. (read.back t (omega arith) l).smallest)

  -- where nothing arrives by the bound, no path is allowed
  pub none_arrives : bound < count → ((t : ℕ) → t < bound + 1 → ¬ EndsAt query At t) → (p : List ℕ) → ¬ Allowed p
  none_arrives long first p a = omega (arith, no_cheaper (bound + 1) first (omega (arith, long)) p a, a.within)
