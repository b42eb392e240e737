-- Where an agent may be at a time step, whatever its cost; and what a search backwards may rule out.
use Rattle.std.proofs.Common.{◌≡◌, ℕ, zero, suc, ◌<◌, ◌≤◌, ◌+◌, List, [], ◌∷◌, ◌++◌, length, slice_index, Option, Some, None, MatchOption, Contains, length-append, subst, subst₂, sym, refl, ap, ◌∙◌, arith}
use Rattle.std.proofs.lemmas.List.{get_or_push, get_or_append_left}
use Rattle.mapf_grid.specs.Grid.{IsFree, HasSizes}
use Rattle.mapf_grid.proofs.Decide.{up_to}
use Rattle.mapf_plan.specs.Path.{cost, at}
use Rattle.mapf_low.specs.declared.constraint.Constraint.TheVariants.{Vertex}
use Rattle.mapf_low.specs.Backwards.Tracing.{CanBe, IsLeft, AreDead}
use Rattle.mapf_low.specs.Constraints.{IsAllowed}
use Rattle.mapf_low.specs.Backwards.Earliest.{AreEarliest, HasEarliest}
use Rattle.mapf_low.specs.Query.{Query, IsPosed}
use Rattle.mapf_low.specs.Reached.{MayStep, ComesFrom}
use Rattle.mapf_low.specs.Walk.{IsWalk, IsDistance, AreDistances, distance_at}
use Rattle.mapf_low.proofs.Arrivals.{IsCovering, IsTrail, step_at}
use Rattle.mapf_low.proofs.distances.LevelSearch.{Next_back, table_shortest}
use Rattle.mapf_low.proofs.Places.{free_below, obeys_each}

module _ (query : Query) where
  -- one step more
  pub can_next : (t u v : ℕ) → ¬ Contains query.constraints (Vertex v (t + 1)) → CanBe query t u → MayStep query (t + 1) u v → CanBe query (t + 1) v
  can_next t u v n i m =
      let e : t + 1 ≡ suc t = omega arith in
      let here : CanBe query (suc t) v = (subst (λ k. ¬ Contains query.constraints (Vertex v k)) e n, (u, (i, subst (λ k. MayStep query k u v) e m))) in
      subst (λ k. CanBe query k v) (sym e) here

  pub can_before : (t v : ℕ) → CanBe query (t + 1) v → (u : ℕ) × ComesFrom query (t + 1) (CanBe query t) v u
  can_before t v i =
      let e : t + 1 ≡ suc t = omega arith in
      let here : CanBe query (suc t) v = subst (λ k. CanBe query k v) e i in
      (here.1.0, (here.1.1.0, subst (λ k. MayStep query k here.1.0 v) (sym e) here.1.1.1))

  pub can_allowed : (t v : ℕ) → CanBe query t v → ¬ Contains query.constraints (Vertex v t)
  can_allowed zero v i = i.1
  can_allowed (suc t) v i = i.0

  -- it is a walk from the start, read backwards
  can_walk : (t v : ℕ) → CanBe query t v → IsWalk query.grid v query.start t
  can_walk zero v i = i.0
  can_walk (suc t) v i = (i.1.0, Next_back query.grid i.1.0 v i.1.1.1.0, can_walk t i.1.0 i.1.1.0)

  can_free : (t v : ℕ) → IsFree query.grid query.start → CanBe query t v → IsFree query.grid v
  can_free zero v f i = subst (IsFree query.grid) (sym i.0) f
  can_free (suc t) v f i = i.1.1.1.0.1

  near_if : (t v : ℕ) (o : Option ℕ) → IsWalk query.grid v query.start t → MatchOption o ((n : ℕ) → ¬ IsWalk query.grid v query.start n) (IsDistance query.grid query.start v) → MatchOption o ⊥ (λ n. n ≤ t)
  near_if t v None w h = h t w
  near_if t v (Some n) w h = h.least t w

  start_if : (v : ℕ) (o : Option ℕ) → o ≡ Some 0 → MatchOption o ((n : ℕ) → ¬ IsWalk query.grid v query.start n) (IsDistance query.grid query.start v) → v ≡ query.start
  start_if v None e h = absurd (let m : ◌≡◌ {A = ℕ} 0 1 = cc in omega (arith, m))
  start_if v (Some n) e h = let z : n ≡ 0 = cc in subst (λ k. IsWalk query.grid v query.start k) z h.walk

  -- so the distances to the start tell when the agent can be on a cell at the earliest
  pub distances_earliest : (table : List (Option ℕ)) → HasSizes query.grid → IsFree query.grid query.start → AreDistances query.grid query.start table → AreEarliest query table
  distances_earliest table sizes free h = record {
    bounds = λ t v l i. near_if t v (distance_at table v) (can_walk t v i) (shortest v (can_free t v free i));
    at_start = λ v e. start_if v (distance_at table v) e (table_shortest query.grid query.start table sizes free h v);
  }
    where
      shortest : (v : ℕ) → IsFree query.grid v → MatchOption (distance_at table v) ((n : ℕ) → ¬ IsWalk query.grid v query.start n) (IsDistance query.grid query.start v)
      shortest v f = h.shortest v (free_below query.grid v sizes f)

  -- where the agent can be nothing rules it out
  pub can_left : (dead : List (ℕ × ℕ)) (t v : ℕ) → t ≤ query.bound → HasEarliest query → AreDead query dead → CanBe query t v → IsLeft query dead t v
  can_left dead t v l earliest out i = (earliest.bounds t v l i, can_allowed t v i, λ c. out v t c i)

  -- the places of an allowed path can be reached
  pub can_be_at : (bound : ℕ) (p : List ℕ) → IsAllowed query.grid query.start query.goal bound query.constraints p → (t : ℕ) → t ≤ cost p → CanBe query t (at p t)
  can_be_at bound p a zero l = (a.path.starts, λ i. obeys_each query.constraints p a.obeys (Vertex (at p 0) 0) i refl)
  can_be_at bound p a (suc t) l =
      let n : t + 1 ≡ suc t = omega arith in
      let here : CanBe query (t + 1) (at p (t + 1)) =
      can_next t (at p t) (at p (t + 1)) (λ i. obeys_each query.constraints p a.obeys (Vertex (at p (t + 1)) (t + 1)) i refl) (can_be_at bound p a t (omega (arith, l))) (step_at query bound p a t (omega (arith, l))) in
      subst (λ k. CanBe query k (at p k)) n here

  pub can_covering : (bound count : ℕ) → IsPosed query → IsCovering query bound (CanBe query) count
  can_covering bound count posed = record {
    start = posed.start;
    ends = posed.ends;
    covers = λ p a t l m. can_be_at bound p a t l;
    first = λ v i. i.0;
    allowed = λ t v l i. can_allowed t v i;
  }

-- a list of steps to a cell
record IsTrailTo (query : Query) (v : ℕ) (q : List ℕ) (end : ℕ) : Type 0 where
  pub long : length q ≡ end + 1
  pub ends : slice_index q end ≡ v
  pub back : (t : ℕ) → t < end → ComesFrom query (t + 1) (CanBe query t) (slice_index q (t + 1)) (slice_index q t)

longer : (query : Query) (t u v : ℕ) (q : List ℕ) → IsTrailTo query u q t → ComesFrom query (t + 1) (CanBe query t) v u → IsTrailTo query v (q ++ v ∷ []) (t + 1)
longer query t u v q h c = record { long = length-append q (v ∷ []) ∙ ap (λ n. n + 1) h.long; ends = last; back = back }
  where
    last : slice_index (q ++ v ∷ []) (t + 1) ≡ v
    last = get_or_push q v 0 (t + 1) h.long

    first : (k : ℕ) → k < t + 1 → slice_index (q ++ v ∷ []) k ≡ slice_index q k
    first k l = get_or_append_left q (v ∷ []) 0 k (omega (arith, l, h.long))

    back : (k : ℕ) → k < t + 1 → ComesFrom query (k + 1) (CanBe query k) (slice_index (q ++ v ∷ []) (k + 1)) (slice_index (q ++ v ∷ []) k)
    back k l =
        up_to (λ j. ComesFrom query (j + 1) (CanBe query j) (slice_index (q ++ v ∷ []) (j + 1)) (slice_index (q ++ v ∷ []) j)) t k l
        (λ m. subst₂ (λ x y. ComesFrom query (k + 1) (CanBe query k) x y) (sym (first (k + 1) (omega (arith, m)))) (sym (first k l)) (h.back k m))
        (subst₂ (λ x y. ComesFrom query (t + 1) (CanBe query t) x y) (sym last) (sym (first t (omega arith) ∙ h.ends)) c)

trail_to : (query : Query) (t v : ℕ) → CanBe query t v → (q : List ℕ) × IsTrailTo query v q t
trail_to query zero v i = (v ∷ [], record { long = refl; ends = refl; back = λ t l. absurd (omega (arith, l)) })
trail_to query (suc t) v i =
    let e : t + 1 ≡ suc t = omega arith in
    let b = can_before query t v (subst (λ k. CanBe query k v) (sym e) i) in
    let r = trail_to query t b.0 b.1.0 in
    (r.0 ++ v ∷ [], subst (λ k. IsTrailTo query v (r.0 ++ v ∷ []) k) e (longer query t b.0 v r.0 r.1 b.1))

-- where the goal can be reached, a list of steps leads there
pub trail : (query : Query) (t : ℕ) → CanBe query t query.goal → (q : List ℕ) × IsTrail query (CanBe query) q t
trail query t i =
    let r = trail_to query t query.goal i in
    (r.0, record { long = r.1.long; ends = r.1.ends; back = r.1.back })
