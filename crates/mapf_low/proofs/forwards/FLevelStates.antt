-- F-levels of one sum have just those states that an agent may reach.
use Rattle.std.proofs.Common.{◌≡◌, ℕ, suc, ◌+◌, ◌-◌, ◌<◌, ◌≤◌, Option, Some, None, MatchOption, Contains, subst, sym, refl, ap, ◌∙◌, arith}
use Rattle.mapf_grid.specs.Grid.{Next, cells}
use Rattle.mapf_low.specs.Query.{Query, IsPosed, HasDistances}
use Rattle.mapf_low.specs.declared.constraint.Constraint.TheVariants.{Vertex}
use Rattle.mapf_low.specs.Walk.{IsWalk, IsDistance}
use Rattle.mapf_low.specs.Walk.{distance_at}
use Rattle.mapf_low.specs.Forwards.FLevels.{IsWithin, Admits, Leads}
use Rattle.mapf_low.specs.Reached.{IsUsable, MayStep, ComesFrom, AreReached}
use Rattle.mapf_low.proofs.distances.LevelSearch.{Next_back}
use Rattle.mapf_low.proofs.Places.{free_below}
use Rattle.mapf_low.proofs.forwards.Leading.{same_distance}

-- an entry of the table that is known
pub match_at : (o : Option ℕ) (n : ℕ) (Q : ℕ → Type 0) → o ≡ Some n → MatchOption o ⊥ Q → Q n
match_at o n Q e h = let P : Option ℕ → Type 0 = λ o. MatchOption o ⊥ Q in subst P e h

pub match_to : (o : Option ℕ) (n : ℕ) (Q : ℕ → Type 0) → o ≡ Some n → Q n → MatchOption o ⊥ Q
match_to o n Q e q = let P : Option ℕ → Type 0 = λ o. MatchOption o ⊥ Q in subst P (sym e) q

pub match_entry : (o : Option ℕ) (Q : ℕ → Type 0) → MatchOption o ⊥ Q → (n : ℕ) × (o ≡ Some n) × Q n
match_entry None Q h = absurd h
match_entry (Some n) Q h = (n, refl, h)

-- a step changes the distance by one at most
pub step_apart : (query : Query) (u v m n : ℕ) → IsPosed query → HasDistances query → Next query.grid u v → distance_at query.table u ≡ Some m → distance_at query.table v ≡ Some n → m ≤ n + 1
step_apart query u v m n posed distances step at_u at_v =
    let of_u : IsDistance query.grid query.goal u m = distance u m (free_below query.grid u posed.sizes step.0) at_u in
    let of_v : IsDistance query.grid query.goal v n = distance v n (free_below query.grid v posed.sizes step.1) at_v in
    omega (arith, of_u.least (suc n) (v, step, of_v.walk))
  where
    distance : (w k : ℕ) → w < cells query.grid → distance_at query.table w ≡ Some k → IsDistance query.grid query.goal w k
    distance w k l e = let P : Option ℕ → Type 0 = λ o. MatchOption o ((n : ℕ) → ¬ IsWalk query.grid w query.goal n) (IsDistance query.grid query.goal w) in subst P e (distances.shortest w l)

-- the goal is on itself
pub goal_at : (query : Query) → IsPosed query → HasDistances query → distance_at query.table query.goal ≡ Some 0
goal_at query posed distances = by (distance_at query.table query.goal) refl (distances.shortest query.goal (free_below query.grid query.goal posed.sizes posed.goal))
  where
    by : (o : Option ℕ) → distance_at query.table query.goal ≡ o → MatchOption o ((n : ℕ) → ¬ IsWalk query.grid query.goal query.goal n) (IsDistance query.grid query.goal query.goal) → distance_at query.table query.goal ≡ Some 0
    by None e h = absurd (h 0 refl)
    by (Some n) e h = e ∙ ap Some (let z : n ≡ 0 = omega (arith, h.least 0 refl) in z)

-- where a cell of an f-level comes from: it is the start, or another cell leads to it
pub data Origin (query : Query) (nearest : ℕ) (C : ℕ → ℕ → Type 0) (k v : ℕ) : Type 0 where
  begins : v ≡ query.start → k ≡ 0 → (¬ Contains query.constraints (Vertex query.start 0)) → Origin query nearest C k v
  follows : (j more u : ℕ) → j + more ≡ k → C j u → Leads query (nearest + j) more u v → Origin query nearest C k v

-- the f-levels up to a sum
pub record AreFLevels (query : Query) (bound nearest : ℕ) (C : ℕ → ℕ → Type 0) : Type 0 where
  pub placed : (k v : ℕ) → C k v → IsWithin query (nearest + k) v
  pub bounded : (k v : ℕ) → C k v → nearest + k ≤ bound
  pub sound : (k v : ℕ) → C k v → Origin query nearest C k v
  pub closed : (k more u v : ℕ) → more ≤ 2 → nearest + k + more ≤ bound → C k u → Leads query (nearest + k) more u v → C (k + more) v
  pub first : nearest ≤ bound → (¬ Contains query.constraints (Vertex query.start 0)) → C 0 query.start

-- what a search from the start to the goal is about
pub record Ground (query : Query) (nearest : ℕ) : Type 0 where
  pub posed : IsPosed query
  pub distances : HasDistances query
  pub nearest_is : distance_at query.table query.start ≡ Some nearest

pub ground_of : (query : Query) (start nearest : ℕ) (distance : Option ℕ) → IsPosed query → HasDistances query → start ≡ query.start → distance ≡ distance_at query.table start → distance ≡ Some nearest → Ground query nearest
ground_of query start nearest distance posed distances is at some = record { posed = posed; distances = distances; nearest_is = ap (distance_at query.table) (sym is) ∙ (sym at ∙ some) }

module _ (query : Query) (bound nearest : ℕ) (C : ℕ → ℕ → Type 0) (ground : Ground query nearest) where
  -- the agent may be on v at time t: the f-level of their sum has it
  abbrev pub At : ℕ → ℕ → Type 0
  At t v = MatchOption (distance_at query.table v) ⊥ (λ n. (nearest ≤ t + n) × C (t + n - nearest) v)

  pub levels_reach : (count : ℕ) → AreFLevels query bound nearest C → AreReached query bound (λ t v. MatchOption (distance_at query.table v) ⊥ (λ n. (nearest ≤ t + n) × C (t + n - nearest) v)) count
  levels_reach count h = record { first = λ v. (first v, first_back v); next = λ t l v. (next t v, λ p. next_back t v p.0 p.1.0 p.1.1) }
    where
      -- the first of them
      first_at : (v n : ℕ) → distance_at query.table v ≡ Some n → nearest ≤ 0 + n → C (0 + n - nearest) v → Origin query nearest C (0 + n - nearest) v → (v ≡ query.start) × IsUsable query bound 0 v
      first_at v n e l i (begins is k free) =
          let same : n ≡ nearest = omega (arith, same_distance (distance_at query.table v) n nearest e (ap (distance_at query.table) is ∙ ground.nearest_is)) in
          (is, (subst (λ w. ¬ Contains query.constraints (Vertex w 0)) (sym is) free, match_to (distance_at query.table v) n (λ m. 0 + m ≤ bound) e (omega (arith, h.bounded (0 + n - nearest) v i, l))))
      first_at v n e l i (follows j more u is c s) =
          let near : s.near ≤ nearest + j = match_at (distance_at query.table u) s.near (λ m. m ≤ nearest + j) s.near_is (h.placed j u c) in
          let far : s.far ≡ n = same_distance (distance_at query.table v) s.far n s.enters.1.0 e in
          absurd (omega (arith, near, far, s.apart, is, l))

      first : (v : ℕ) → At 0 v → (v ≡ query.start) × IsUsable query bound 0 v
      first v a =
          let n = match_entry (distance_at query.table v) (λ n. (nearest ≤ 0 + n) × C (0 + n - nearest) v) a in
          first_at v n.0 n.1 n.2.0 n.2.1 (h.sound (0 + n.0 - nearest) v n.2.1)

      first_back : (v : ℕ) → (v ≡ query.start) × IsUsable query bound 0 v → At 0 v
      first_back v (is, (free, near)) =
          let at : distance_at query.table v ≡ Some nearest = ap (distance_at query.table) is ∙ ground.nearest_is in
          let within : 0 + nearest ≤ bound = match_at (distance_at query.table v) nearest (λ m. 0 + m ≤ bound) at near in
          let zero_is : 0 ≡ 0 + nearest - nearest = omega arith in
          let here : C 0 v = subst (λ w. C 0 w) (sym is) (h.first (omega (arith, within)) (subst (λ w. ¬ Contains query.constraints (Vertex w 0)) is free)) in
          match_to (distance_at query.table v) nearest (λ n. (nearest ≤ 0 + n) × C (0 + n - nearest) v) at (omega arith, subst (λ k. C k v) zero_is here)

      -- each later one
      next_at : (t v n : ℕ) → distance_at query.table v ≡ Some n → nearest ≤ t + 1 + n → C (t + 1 + n - nearest) v → Origin query nearest C (t + 1 + n - nearest) v →
          IsUsable query bound (t + 1) v × ((u : ℕ) × ComesFrom query (t + 1) (At t) v u)
      next_at t v n e l i (begins is k free) =
          let same : n ≡ nearest = same_distance (distance_at query.table v) n nearest e (ap (distance_at query.table) is ∙ ground.nearest_is) in
          absurd (omega (arith, same, k, l))
      next_at t v n e l i (follows j more u is c s) =
          let far : s.far ≡ n = same_distance (distance_at query.table v) s.far n s.enters.1.0 e in
          let near : s.near ≤ nearest + j = match_at (distance_at query.table u) s.near (λ m. m ≤ nearest + j) s.near_is (h.placed j u c) in
          let sum : nearest + j ≡ t + s.near = omega (arith, far, s.apart, is, l) in
          let time : nearest + j - s.near + 1 ≡ t + 1 = omega (arith, sum) in
          let place : j ≡ t + s.near - nearest = omega (arith, sum) in
          let enters : Admits query (t + 1) s.far u v = subst (λ k. Admits query k s.far u v) time s.enters.1 in (
            (enters.1.0, match_to (distance_at query.table v) n (λ m. t + 1 + m ≤ bound) e (omega (arith, h.bounded (t + 1 + n - nearest) v i, l))),
            (u, (match_to (distance_at query.table u) s.near (λ m. (nearest ≤ t + m) × C (t + m - nearest) u) s.near_is (omega (arith, sum), subst (λ k. C k u) place c), (s.enters.0, enters.1.1))),
          )

      next : (t v : ℕ) → At (t + 1) v → IsUsable query bound (t + 1) v × ((u : ℕ) × ComesFrom query (t + 1) (At t) v u)
      next t v a =
          let n = match_entry (distance_at query.table v) (λ n. (nearest ≤ t + 1 + n) × C (t + 1 + n - nearest) v) a in
          next_at t v n.0 n.1 n.2.0 n.2.1 (h.sound (t + 1 + n.0 - nearest) v n.2.1)

      leads_back : (t u v m n : ℕ) → distance_at query.table u ≡ Some m → distance_at query.table v ≡ Some n → IsUsable query bound (t + 1) v → nearest ≤ t + m → C (t + m - nearest) u → MayStep query (t + 1) u v → At (t + 1) v
      leads_back t u v m n at_u at_v o low there step =
          let within : t + 1 + n ≤ bound = match_at (distance_at query.table v) n (λ n. t + 1 + n ≤ bound) at_v o.1 in
          let down : m ≤ n + 1 = step_apart query u v m n ground.posed ground.distances step.0 at_u at_v in
          let up : n ≤ m + 1 = step_apart query v u n m ground.posed ground.distances (Next_back query.grid u v step.0) at_v at_u in
          let time : t + 1 ≡ nearest + (t + m - nearest) - m + 1 = omega (arith, low) in
          let leads : Leads query (nearest + (t + m - nearest)) (n + 1 - m) u v =
          record { near = m; far = n; near_is = at_u; apart = omega (arith, down); enters = (step.0, subst (λ k. Admits query k n u v) time (at_v, (o.0, step.1))) } in
          let found : C (t + m - nearest + (n + 1 - m)) v = h.closed (t + m - nearest) (n + 1 - m) u v (omega (arith, up, down)) (omega (arith, low, down, within)) there leads in
          let place : t + m - nearest + (n + 1 - m) ≡ t + 1 + n - nearest = omega (arith, low, down) in
          match_to (distance_at query.table v) n (λ n. (nearest ≤ t + 1 + n) × C (t + 1 + n - nearest) v) at_v (omega (arith, low, down), subst (λ k. C k v) place found)

      next_back : (t v : ℕ) → IsUsable query bound (t + 1) v → (u : ℕ) → ComesFrom query (t + 1) (At t) v u → At (t + 1) v
      next_back t v o u (from, step) =
          let n = match_entry (distance_at query.table v) (λ n. t + 1 + n ≤ bound) o.1 in
          let m = match_entry (distance_at query.table u) (λ n. (nearest ≤ t + n) × C (t + n - nearest) u) from in
          leads_back t u v m.0 n.0 m.1 n.1 o m.2.0 m.2.1 step
