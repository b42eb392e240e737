-- The cells that a search backwards has placed, from the goal to an earlier time step.
use Rattle.std.proofs.Common.{◌≡◌, ◌≢◌, ◌⊎◌, ℕ, zero, suc, ◌<◌, ◌≤◌, ◌+◌, List, set, length, slice_index, Option, Some, None, MatchOption, Contains, inl, inr, subst, subst₂, sym, refl, ap, ◌∙◌, arith}
use Rattle.std.proofs.lemmas.Bool.{cases_lt}
use Rattle.std.proofs.lemmas.List.{length-set, get_or-set_other, get_or-set_same}
use Rattle.mapf_grid.specs.Grid.{IsFree, cells}
use Rattle.mapf_low.specs.Backwards.Tracing.{CanBe, IsLeft, AreDead, IsJoined, IsTraced}
use Rattle.mapf_low.specs.Best.{IsSmallest}
use Rattle.mapf_low.specs.Backwards.Earliest.{HasEarliest}
use Rattle.mapf_low.specs.Query.{Query, IsPosed}
use Rattle.mapf_low.specs.Reached.{MayStep, ComesFrom}
use Rattle.mapf_low.specs.Walk.{distance_at}
use Rattle.mapf_low.proofs.backwards.OutOfReach.{can_next, can_before, can_left}
use Rattle.mapf_low.proofs.Places.{free_below}

-- from time `from` to time `end` each cell is left, leads to the next, and is the smallest from which a list of steps could
pub record IsPlaced (query : Query) (dead : List (ℕ × ℕ)) (path : List ℕ) (from end : ℕ) : Type 0 where
  pub long : length path ≡ end + 1
  pub ends : slice_index path end ≡ query.goal
  pub left : (t : ℕ) → from ≤ t → t ≤ end → IsLeft query dead t (slice_index path t)
  pub steps : (t : ℕ) → from ≤ t → t < end → MayStep query (t + 1) (slice_index path t) (slice_index path (t + 1))
  pub smallest : (t : ℕ) → from ≤ t → t < end → (w : ℕ) → ComesFrom query (t + 1) (CanBe query t) (slice_index path (t + 1)) w → slice_index path t ≤ w

module _ (query : Query) (end : ℕ) where
  -- one cell more, the smallest that is left
  pub placed_more : (dead : List (ℕ × ℕ)) (path : List ℕ) (t cell u : ℕ) → t < end → end ≤ query.bound → HasEarliest query → AreDead query dead → IsPlaced query dead path (t + 1) end → cell ≡ slice_index path (t + 1) →
      IsSmallest (ComesFrom query (t + 1) (IsLeft query dead t) cell) (Some u) → IsPlaced query dead (set path t u) t end
  placed_more dead path t cell u l within earliest out h at s = record {
    long = length-set path t u ∙ h.long;
    ends = later end (omega (arith, l)) ∙ h.ends;
    left = left;
    steps = steps;
    smallest = smallest;
  }
    where
      later : (k : ℕ) → t < k → slice_index (set path t u) k ≡ slice_index path k
      later k m = get_or-set_other path t k u 0 (let ne : k ≢ t = omega (arith, m) in ne)

      here : slice_index (set path t u) t ≡ u
      here = get_or-set_same path t u 0 (omega (arith, l, h.long))

      ahead : cell ≡ slice_index (set path t u) (t + 1)
      ahead = at ∙ sym (later (t + 1) (omega arith))

      left : (k : ℕ) → t ≤ k → k ≤ end → IsLeft query dead k (slice_index (set path t u) k)
      left k m b = go (cases_lt t k)
        where
          go : (t < k) ⊎ (k ≤ t) → IsLeft query dead k (slice_index (set path t u) k)
          go (inl a) = subst (λ v. IsLeft query dead k v) (sym (later k a)) (h.left k (omega (arith, a)) b)
          go (inr a) =
              let e : t ≡ k = omega (arith, a, m) in
              subst (λ n. IsLeft query dead n (slice_index (set path t u) n)) e (subst (λ v. IsLeft query dead t v) (sym here) s.0.0)

      steps : (k : ℕ) → t ≤ k → k < end → MayStep query (k + 1) (slice_index (set path t u) k) (slice_index (set path t u) (k + 1))
      steps k m b = go (cases_lt t k)
        where
          go : (t < k) ⊎ (k ≤ t) → MayStep query (k + 1) (slice_index (set path t u) k) (slice_index (set path t u) (k + 1))
          go (inl a) = subst₂ (λ v w. MayStep query (k + 1) v w) (sym (later k a)) (sym (later (k + 1) (omega (arith, a)))) (h.steps k (omega (arith, a)) b)
          go (inr a) =
              let e : t ≡ k = omega (arith, a, m) in
              subst (λ n. MayStep query (n + 1) (slice_index (set path t u) n) (slice_index (set path t u) (n + 1))) e
              (subst₂ (λ v w. MayStep query (t + 1) v w) (sym here) ahead s.0.1)

      smallest : (k : ℕ) → t ≤ k → k < end → (w : ℕ) → ComesFrom query (k + 1) (CanBe query k) (slice_index (set path t u) (k + 1)) w → slice_index (set path t u) k ≤ w
      smallest k m b w c = go (cases_lt t k)
        where
          go : (t < k) ⊎ (k ≤ t) → slice_index (set path t u) k ≤ w
          go (inl a) = subst (λ v. v ≤ w) (sym (later k a)) (h.smallest k (omega (arith, a)) b w (subst (λ v. ComesFrom query (k + 1) (CanBe query k) v w) (later (k + 1) (omega (arith, a))) c))
          go (inr a) =
              let e : k ≡ t = omega (arith, a, m) in
              let d : ComesFrom query (t + 1) (CanBe query t) (slice_index (set path t u) (t + 1)) w = subst (λ n. ComesFrom query (n + 1) (CanBe query n) (slice_index (set path t u) (n + 1)) w) e c in
              let f : ComesFrom query (t + 1) (IsLeft query dead t) cell w = (can_left query dead t w (omega (arith, l, within)) earliest out d.0, subst (λ v. MayStep query (t + 1) w v) (sym ahead) d.1) in
              let least : u ≤ w = s.1 w f in
              subst (λ n. slice_index (set path t u) n ≤ w) (sym e) (subst (λ v. v ≤ w) (sym here) least)

  -- one state more that leads nowhere leaves those placed at later times
  pub placed_fewer : (dead new : List (ℕ × ℕ)) (path : List ℕ) (t cell : ℕ) → IsPlaced query dead path t end → IsJoined (cell, t) dead new → IsPlaced query new path (t + 1) end
  placed_fewer dead new path t cell h joined = record {
    long = h.long;
    ends = h.ends;
    left = λ k m b. let f = h.left k (omega (arith, m)) b in (f.0, f.1, alive k m (slice_index path k) f.2);
    steps = λ k m b. h.steps k (omega (arith, m)) b;
    smallest = λ k m b. h.smallest k (omega (arith, m)) b;
  }
    where
      alive : (k : ℕ) → t + 1 ≤ k → (v : ℕ) → ¬ Contains dead (v, k) → ¬ Contains new (v, k)
      alive k m v f i = pick (joined (v, k) i)
        where
          pick : Contains dead (v, k) ⊎ ◌≡◌ {A = ℕ × ℕ} (cell, t) (v, k) → ⊥
          pick (inl j) = f j
          pick (inr e) = let same : t ≡ k = ap (λ (p : ℕ × ℕ). p.1) e in omega (arith, same, m)

  -- the cell that was placed last is free, and one of the map's
  pub placed_free : (dead : List (ℕ × ℕ)) (path : List ℕ) (t : ℕ) → t ≤ end → IsPosed query → IsPlaced query dead path t end → IsFree query.grid (slice_index path t)
  placed_free dead path t l posed h = go (cases_lt t end)
    where
      go : (t < end) ⊎ (end ≤ t) → IsFree query.grid (slice_index path t)
      go (inl m) = (h.steps t (omega arith) m).0.0
      go (inr m) = let e : end ≡ t = omega (arith, l, m) in subst (λ k. IsFree query.grid (slice_index path k)) e (subst (IsFree query.grid) (sym h.ends) posed.goal)

  pub placed_inside : (dead : List (ℕ × ℕ)) (path : List ℕ) (t : ℕ) → t ≤ end → IsPosed query → IsPlaced query dead path t end → slice_index path t < cells query.grid
  placed_inside dead path t l posed h = free_below query.grid (slice_index path t) posed.sizes (placed_free dead path t l posed h)

  -- down to time 0 each cell can be reached
  placed_can : (dead : List (ℕ × ℕ)) (path : List ℕ) → HasEarliest query → IsPlaced query dead path 0 end → (t : ℕ) → t ≤ end → CanBe query t (slice_index path t)
  placed_can dead path earliest h zero l = (at_start (distance_at query.table (slice_index path 0)) refl (h.left 0 (omega arith) l).0, (h.left 0 (omega arith) l).1)
    where
      at_start : (o : Option ℕ) → distance_at query.table (slice_index path 0) ≡ o → MatchOption o ⊥ (λ n. n ≤ 0) → slice_index path 0 ≡ query.start
      at_start None e n = absurd n
      at_start (Some n) e b = earliest.at_start (slice_index path 0) (e ∙ ap Some (let z : n ≡ 0 = omega (arith, b) in z))
  placed_can dead path earliest h (suc t) l =
      let n : t + 1 ≡ suc t = omega arith in
      let here : CanBe query (t + 1) (slice_index path (t + 1)) =
      can_next query t (slice_index path t) (slice_index path (t + 1)) (h.left (t + 1) (omega arith) (omega (arith, l))).1 (placed_can dead path earliest h t (omega (arith, l))) (h.steps t (omega arith) (omega (arith, l))) in
      subst (λ k. CanBe query k (slice_index path k)) n here

  -- so the list is the least one
  pub placed_all : (dead : List (ℕ × ℕ)) (path : List ℕ) → HasEarliest query → IsPlaced query dead path 0 end → IsTraced query end (Some path)
  placed_all dead path earliest h = (
    record {
      long = h.long;
      ends = h.ends;
      back = λ t l m. record { comes = (placed_can dead path earliest h t (omega (arith, m)), h.steps t l m); smallest = h.smallest t l m };
    },
    subst (CanBe query end) h.ends (placed_can dead path earliest h end (omega arith)),
  )

module _ (query : Query) (dead : List (ℕ × ℕ)) (t cell : ℕ) (within : t ≤ query.bound) (earliest : HasEarliest query) (out : AreDead query dead)
    (none : IsSmallest (ComesFrom query (t + 1) (IsLeft query dead t) cell) None) where
  -- where none is left before it, the cell can't be reached
  pub not_can : ¬ CanBe query (t + 1) cell
  not_can i =
      let b = can_before query t cell i in
      none b.0 (can_left query dead t b.0 within earliest out b.1.0, b.1.1)

  -- so it is a dead end
  pub dead_more : (new : List (ℕ × ℕ)) → IsJoined (cell, t + 1) dead new → AreDead query new
  dead_more new joined v s i = pick (joined (v, s) i)
    where
      pick : Contains dead (v, s) ⊎ ◌≡◌ {A = ℕ × ℕ} (cell, t + 1) (v, s) → ¬ CanBe query s v
      pick (inl i) = out v s i
      pick (inr e) = subst₂ (λ k w. ¬ CanBe query k w) (ap (λ (p : ℕ × ℕ). p.1) e) (ap (λ (p : ℕ × ℕ). p.0) e) not_can
