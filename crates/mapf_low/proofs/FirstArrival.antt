-- What is reached up to the first arrival has each place of each allowed path, so the path that is read back is the own path.
use Rattle.std.proofs.Common.{◌≡◌, ℕ, zero, suc, ◌<◌, ◌≤◌, ◌+◌, ◌-◌, List, slice_index_or, Option, Some, None, MatchOption, Contains, subst, sym, refl, arith}
use Rattle.mapf_plan.specs.Path.{cost, at}
use Rattle.mapf_plan.proofs.Paths.{place_free}
use Rattle.mapf_low.specs.Query.{Query, IsPosed, HasDistances}
use Rattle.mapf_low.specs.declared.constraint.Constraint.TheVariants.{Vertex}
use Rattle.mapf_low.specs.Constraints.{IsAllowed}
use Rattle.mapf_low.specs.OwnPath.{IsOwnPath}
use Rattle.mapf_low.specs.Walk.{IsWalk, IsDistance}
use Rattle.mapf_low.specs.Reached.{IsUsable, AreReached, EndsAt, IsReconstructed}
use Rattle.mapf_low.proofs.Arrivals.{IsCovering, step_at, no_cheaper, own_path, none_arrives}
use Rattle.mapf_low.proofs.Places.{free_below, rest_walks, obeys_each}

-- what a search is about
pub record Setting (query : Query) (bound : ℕ) (At : ℕ → ℕ → Type 0) (count : ℕ) : Type 0 where
  pub posed : IsPosed query
  pub distances : HasDistances query
  pub reached_are : AreReached query bound At count

module _ (query : Query) (bound : ℕ) (At : ℕ → ℕ → Type 0) (count : ℕ) (set : Setting query bound At count) where
  abbrev Allowed : List ℕ → Type 0
  Allowed p = IsAllowed query.grid query.start query.goal bound query.constraints p

  near : (p : List ℕ) → Allowed p → (t : ℕ) → t ≤ cost p → (o : Option ℕ) → MatchOption o ((n : ℕ) → ¬ IsWalk query.grid (at p t) query.goal n) (IsDistance query.grid query.goal (at p t)) → MatchOption o ⊥ (λ n. t + n ≤ bound)
  near p a t l None h = h (cost p - t) (rest_walks query.grid query.start query.goal p a.path (cost p - t) t (omega (arith, l)))
  near p a t l (Some n) h =
      let shorter : n ≤ cost p - t = h.least (cost p - t) (rest_walks query.grid query.start query.goal p a.path (cost p - t) t (omega (arith, l))) in
      omega (arith, shorter, l, a.within)

  -- each place of an allowed path is open at its time
  open_at : (p : List ℕ) → Allowed p → (t : ℕ) → t ≤ cost p → IsUsable query bound t (at p t)
  open_at p a t l = (
    (λ i. obeys_each query.constraints p a.obeys (Vertex (at p t) t) i refl),
    near p a t l (slice_index_or query.table (at p t) None) (set.distances.shortest (at p t) (free_below query.grid (at p t) set.posed.sizes (place_free query.grid query.start query.goal p a.path t))),
  )

  -- so each of its places is reached at its time
  pub reached : (p : List ℕ) → Allowed p → (t : ℕ) → t ≤ cost p → t < count → At t (at p t)
  reached p a zero l m = (set.reached_are.first (at p 0)).1 (a.path.starts, open_at p a 0 l)
  reached p a (suc t) l m =
      let n : t + 1 ≡ suc t = omega arith in
      let earlier : At t (at p t) = reached p a t (omega (arith, l)) (omega (arith, m)) in
      let here : At (t + 1) (at p (t + 1)) =
      (set.reached_are.next t (omega (arith, m)) (at p (t + 1))).1 (open_at p a (t + 1) (omega (arith, l)), (at p t, (earlier, step_at query bound p a t (omega (arith, l))))) in
      subst (λ k. At k (at p k)) n here

  -- nothing that is reached is forbidden at its time
  open_in : (t v : ℕ) → t < count → At t v → ¬ Contains query.constraints (Vertex v t)
  open_in zero v l i = ((set.reached_are.first v).0 i).1.0
  open_in (suc t) v l i =
      let n : suc t ≡ t + 1 = omega arith in
      let there : At (t + 1) v = subst (λ k. At k v) n i in
      subst (λ k. ¬ Contains query.constraints (Vertex v k)) (sym n) ((set.reached_are.next t (omega (arith, l)) v).0 there).0.0

  covering : IsCovering query bound At count
  covering = record {
    start = set.posed.start;
    ends = set.posed.ends;
    covers = reached;
    first = λ v i. ((set.reached_are.first v).0 i).0;
    allowed = open_in;
  }

  -- the path that is read back is the own path
  pub own : (end : ℕ) (q : List ℕ) → end < count → end ≤ bound → IsReconstructed query At q 0 end → EndsAt query At end → ((t : ℕ) → t < end → ¬ EndsAt query At t) →
      IsOwnPath query.grid query.start query.goal bound query.constraints q
  own = own_path query bound At count covering

  -- where nothing is reached and nothing arrived before, no path is allowed
  pub none_through : (end : ℕ) → end < count → ((t : ℕ) → t < end → ¬ EndsAt query At t) → ((v : ℕ) → ¬ At end v) → (p : List ℕ) → ¬ Allowed p
  none_through end long first empty p a = empty (at p end) (reached p a end (no_cheaper query bound At count covering end first (omega (arith, long)) p a) long)

  -- where nothing arrives by the bound, no path is allowed
  pub none_by_bound : bound < count → ((t : ℕ) → t < bound + 1 → ¬ EndsAt query At t) → (p : List ℕ) → ¬ Allowed p
  none_by_bound = none_arrives query bound At count covering
