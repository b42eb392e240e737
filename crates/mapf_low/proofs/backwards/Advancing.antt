-- The table of the earliest arrivals, as it is made time step by time step.
use Rattle.std.proofs.Common.{◌≡◌, ◌≢◌, ◌⊎◌, ℕ, zero, suc, ◌+◌, ◌<◌, ◌≤◌, Bool, true, false, List, [], ◌∷◌, ◌++◌, length, take, replicate, set, get_or, Option, Some, None, MatchOption, Contains, inl, inr, subst, sym, refl, ap, ◌∙◌, ⊎_elim, arith, get_or-set_same, get_or-set_other}
use mathlib.Core.Bool.{◌&&◌}
use Rattle.std.proofs.lemmas.Bool.{cases_lt, cases_eq}
use Rattle.std.proofs.lemmas.List.{length-set, length-replicate}
use Rattle.std.proofs.lemmas.List.Elements.{Contains-append_left, Contains-push, Contains-push_cases}
use Rattle.mapf_grid.specs.Grid.{Grid, IsFree, IsBeside}
use Rattle.mapf_low.specs.declared.constraint.Constraint.{Constraint}
use Rattle.mapf_low.specs.declared.constraint.Constraint.TheVariants.{Vertex}
use Rattle.mapf_low.specs.Backwards.Tracing.{CanBe}
use Rattle.mapf_low.specs.Backwards.Earliest.{AreEarliest, MayGo, HasEntry, Advances, IsLookedAt, IsAdvanced}
use Rattle.mapf_low.specs.Distances.Levels.{IsFreeNeighbour}
use Rattle.mapf_low.specs.Query.{Query}
use Rattle.mapf_low.specs.Walk.{distance_at}
use Rattle.mapf_low.proofs.Growing.{members_more, all_in_front}
use Rattle.mapf_low.proofs.distances.LevelSearch.{none_in_replicate}
use Rattle.mapf_low.proofs.backwards.OutOfReach.{can_before, can_allowed}

module _ (g : Grid) (time : ℕ) where
  pub advances_both : (a b c : List (Option ℕ)) (x y z : List ℕ) → Advances g time a b x y → Advances g time b c y z → Advances g time a c x z
  advances_both a b c x y z first second = record {
    same_length = second.same_length ∙ first.same_length;
    kept = λ v m e. second.kept v m (first.kept v m e);
    fresh = λ v m e. fresh v m (second.fresh v m e);
    stays = λ v i. second.stays v (first.stays v i);
    listed = λ v i. listed v (second.listed v i);
  }
    where
      earlier : (v m : ℕ) → (distance_at a v ≡ Some m) ⊎ ((m ≡ time) × Contains y v) → (distance_at a v ≡ Some m) ⊎ ((m ≡ time) × Contains z v)
      earlier v m (inl e) = inl e
      earlier v m (inr (e, i)) = inr (e, second.stays v i)

      fresh : (v m : ℕ) → (distance_at b v ≡ Some m) ⊎ ((m ≡ time) × Contains z v) → (distance_at a v ≡ Some m) ⊎ ((m ≡ time) × Contains z v)
      fresh v m (inl e) = earlier v m (first.fresh v m e)
      fresh v m (inr p) = inr p

      listed : (v : ℕ) → Contains y v ⊎ IsFree g v → Contains x v ⊎ IsFree g v
      listed v (inl i) = first.listed v i
      listed v (inr f) = inr f

  -- a cell is to be gone on from again
  pub advances_waits : (table : List (Option ℕ)) (cells : List ℕ) (cell : ℕ) → IsFree g cell → Advances g time table table cells (cells ++ cell ∷ [])
  advances_waits table cells cell free = record {
    same_length = refl;
    kept = λ v m e. e;
    fresh = λ v m e. inl e;
    stays = λ v i. Contains-append_left cells (cell ∷ []) v i;
    listed = λ v i. ⊎_elim (λ j. inl j) (λ e. inr (subst (IsFree g) e free)) (Contains-push_cases cells cell v i);
  }

  -- a cell is entered
  pub advances_enters : (table : List (Option ℕ)) (cells : List ℕ) (cell : ℕ) → IsFree g cell → cell < length table → distance_at table cell ≡ None → Advances g time table (set table cell (Some time)) cells (cells ++ cell ∷ [])
  advances_enters table cells cell free inside none = record {
    same_length = length-set table cell (Some time);
    kept = λ v m e. kept v m e (cases_eq v cell);
    fresh = λ v m e. fresh v m e (cases_eq v cell);
    stays = λ v i. Contains-append_left cells (cell ∷ []) v i;
    listed = λ v i. ⊎_elim (λ j. inl j) (λ e. inr (subst (IsFree g) e free)) (Contains-push_cases cells cell v i);
  }
    where
      there : (v : ℕ) → v ≢ cell → distance_at (set table cell (Some time)) v ≡ distance_at table v
      there v ne = get_or-set_other table cell v (Some time) None ne

      kept : (v m : ℕ) → distance_at table v ≡ Some m → (v ≡ cell) ⊎ (v ≢ cell) → distance_at (set table cell (Some time)) v ≡ Some m
      kept v m e (inl s) = let old : distance_at table cell ≡ Some m = subst (λ k. distance_at table k ≡ Some m) s e in absurd (let n : None ≡ Some m = sym none ∙ old in let z : ◌≡◌ {A = ℕ} 0 1 = cc in omega (arith, z))
      kept v m e (inr ne) = there v ne ∙ e

      fresh : (v m : ℕ) → distance_at (set table cell (Some time)) v ≡ Some m → (v ≡ cell) ⊎ (v ≢ cell) → (distance_at table v ≡ Some m) ⊎ ((m ≡ time) × Contains (cells ++ cell ∷ []) v)
      fresh v m e (inr ne) = inl (sym (there v ne) ∙ e)
      fresh v m e (inl s) =
          let here : distance_at (set table cell (Some time)) cell ≡ Some time = get_or-set_same table cell (Some time) None inside in
          let at : distance_at (set table cell (Some time)) cell ≡ Some m = subst (λ k. distance_at (set table cell (Some time)) k ≡ Some m) s e in
          inr (cc (here, at), subst (Contains (cells ++ cell ∷ [])) (sym s) (Contains-push cells cell))

both_set : (a b : Bool) → a && b ≡ true → (a ≡ true) × (b ≡ true)
both_set true b e = (refl, e)
both_set false b e = absurd (let z : ◌≡◌ {A = ℕ} 0 1 = cc in omega (arith, z))

-- what has an entry keeps it
pub entry_kept : (g : Grid) (time : ℕ) (old new : List (Option ℕ)) (x y : List ℕ) → Advances g time old new x y → (v : ℕ) → HasEntry old v → HasEntry new v
entry_kept g time old new x y h v (m, e) = (m, h.kept v m e)

module _ (query : Query) (t u : ℕ) where
  -- and what was looked at needs no second look
  pub looked_kept : (time : ℕ) (old new : List (Option ℕ)) (x y : List ℕ) → IsLookedAt query t old x u → Advances query.grid time old new x y → IsLookedAt query t new y u
  looked_kept time old new x y h more = record { entered = λ v s m. keeps v (h.entered v s m); waits = waits h.waits }
    where
      keeps : (v : ℕ) → HasEntry old v → HasEntry new v
      keeps = entry_kept query.grid time old new x y more

      waits : Contains x u ⊎ ((v : ℕ) → IsFreeNeighbour query.grid u v → HasEntry old v) → Contains y u ⊎ ((v : ℕ) → IsFreeNeighbour query.grid u v → HasEntry new v)
      waits (inl i) = inl (more.stays u i)
      waits (inr f) = inr (λ v s. keeps v (f v s))

  -- the first of the neighbours of u were looked at, and whether all of those have an entry
  pub record AreTried (table : List (Option ℕ)) (neighbours : List ℕ) (all_entered : Bool) : Type 0 where
    pub entered : (v : ℕ) → Contains neighbours v → MayGo query t u v → HasEntry table v
    pub all : all_entered ≡ true → (v : ℕ) → Contains neighbours v → HasEntry table v

  pub tried_more : (time : ℕ) (old new : List (Option ℕ)) (x y neighbours : List ℕ) (k to : ℕ) (all entered : Bool) → k < length neighbours → to ≡ get_or neighbours k to → AreTried old (take k neighbours) all → Advances query.grid time old new x y →
      (MayGo query t u to → HasEntry new to) → (entered ≡ true → HasEntry new to) → AreTried new (take (k + 1) neighbours) (all && entered)
  tried_more time old new x y neighbours k to all entered l is h more goes has = record {
    entered = λ v i m. enters v m ((members_more neighbours k to v l is).0 i);
    all = λ e v i. each (both_set all entered e) v ((members_more neighbours k to v l is).0 i);
  }
    where
      keeps : (v : ℕ) → HasEntry old v → HasEntry new v
      keeps = entry_kept query.grid time old new x y more

      enters : (v : ℕ) → MayGo query t u v → Contains (take k neighbours) v ⊎ (to ≡ v) → HasEntry new v
      enters v m (inl i) = keeps v (h.entered v i m)
      enters v m (inr e) = subst (HasEntry new) e (goes (subst (MayGo query t u) (sym e) m))

      each : (all ≡ true) × (entered ≡ true) → (v : ℕ) → Contains (take k neighbours) v ⊎ (to ≡ v) → HasEntry new v
      each p v (inl i) = keeps v (h.all p.0 v i)
      each p v (inr e) = subst (HasEntry new) e (has p.1)

  module _ (table : List (Option ℕ)) (neighbours : List ℕ) (k : ℕ) (all : Bool) (whole : k ≡ length neighbours) (of : (v : ℕ) → IsFreeNeighbour query.grid u v → Contains neighbours v) (h : AreTried table (take k neighbours) all) where
    in_front : (v : ℕ) → IsFreeNeighbour query.grid u v → Contains (take k neighbours) v
    in_front v s = (all_in_front neighbours k v whole).1 (of v s)

    pub looked_all : (cells : List ℕ) → all ≡ true → IsLookedAt query t table cells u
    looked_all cells e = record { entered = λ v s. h.entered v (in_front v s); waits = inr (λ v s. h.all e v (in_front v s)) }

    pub looked_waits : (cells : List ℕ) → IsLookedAt query t table (cells ++ u ∷ []) u
    looked_waits cells = record { entered = λ v s. h.entered v (in_front v s); waits = inl (Contains-push cells u) }

-- what was looked at from the first cells, and then from the next one
pub looked_more : (query : Query) (t time : ℕ) (old new : List (Option ℕ)) (x y cells : List ℕ) (k from : ℕ) → k < length cells → from ≡ get_or cells k from → ((u : ℕ) → Contains (take k cells) u → IsLookedAt query t old x u) →
    Advances query.grid time old new x y → IsLookedAt query t new y from → (u : ℕ) → Contains (take (k + 1) cells) u → IsLookedAt query t new y u
looked_more query t time old new x y cells k from l is before more here u i = go ((members_more cells k from u l is).0 i)
  where
    go : Contains (take k cells) u ⊎ (from ≡ u) → IsLookedAt query t new y u
    go (inl j) = looked_kept query t u time old new x y (before u j) more
    go (inr e) = subst (IsLookedAt query t new y) e here

module _ (query : Query) where
  -- nothing has an entry yet
  module _ (empty : List (Option ℕ)) (is : empty ≡ replicate (length query.grid.free) None) where
    size : length empty ≡ length query.grid.free
    size = ap length is ∙ length-replicate (length query.grid.free) None

    none : (v : ℕ) → distance_at empty v ≡ None
    none v = subst (λ (t : List (Option ℕ)). distance_at t v ≡ None) (sym is) (none_in_replicate (length query.grid.free) v)

    -- the start alone, at time 0
    pub advanced_first : IsFree query.grid query.start → query.start < length query.grid.free →
        IsAdvanced query 0 (set empty query.start (Some 0)) ([] ++ query.start ∷ [])
    advanced_first free inside = record {
      each = length-set empty query.start (Some 0) ∙ size;
      at_most = λ v m e. let p = only v m e (cases_eq v query.start) in omega (arith, p.0);
      at_start = λ v e. (only v 0 e (cases_eq v query.start)).1;
      bounds = bounds;
      closed = λ u h. inl (subst (Contains ([] ++ query.start ∷ [])) (sym (only u h.0 h.1 (cases_eq u query.start)).1) (Contains-push [] query.start));
      free = λ v i. ⊎_elim (λ j. absurd (omega (arith, j.1))) (λ e. subst (IsFree query.grid) e free) (Contains-push_cases [] query.start v i);
    }
      where
        here : distance_at (set empty query.start (Some 0)) query.start ≡ Some 0
        here = get_or-set_same empty query.start (Some 0) None (omega (arith, inside, size))

        only : (v m : ℕ) → distance_at (set empty query.start (Some 0)) v ≡ Some m → (v ≡ query.start) ⊎ (v ≢ query.start) → (m ≡ 0) × (v ≡ query.start)
        only v m e (inl s) = let at : distance_at (set empty query.start (Some 0)) query.start ≡ Some m = subst (λ k. distance_at (set empty query.start (Some 0)) k ≡ Some m) s e in (cc (here, at), s)
        only v m e (inr ne) = absurd (let n : None ≡ Some m = sym (none v) ∙ sym (get_or-set_other empty query.start v (Some 0) None ne) ∙ e in let z : ◌≡◌ {A = ℕ} 0 1 = cc in omega (arith, z))

        bounds : (t v : ℕ) → t ≤ 0 → CanBe query t v → (m : ℕ) × (distance_at (set empty query.start (Some 0)) v ≡ Some m) × (m ≤ t)
        bounds t v l i =
            let z : t ≡ 0 = omega (arith, l) in
            let s : v ≡ query.start = (subst (λ k. CanBe query k v) z i).0 in
            (0, subst (λ k. distance_at (set empty query.start (Some 0)) k ≡ Some 0) (sym s) here, omega arith)

    -- or nothing, where it is forbidden then
    pub advanced_none : ((¬ Contains query.constraints (Vertex query.start 0)) → ⊥) → IsAdvanced query 0 empty []
    advanced_none forbidden = record {
      each = size;
      at_most = λ v m e. absurd (no_entry v m e);
      at_start = λ v e. absurd (no_entry v 0 e);
      bounds = λ t v l i. absurd (let z : t ≡ 0 = omega (arith, l) in let j = subst (λ k. CanBe query k v) z i in forbidden (subst (λ w. ¬ Contains query.constraints (Vertex w 0)) j.0 j.1));
      closed = λ u h. absurd (no_entry u h.0 h.1);
      free = λ v i. absurd (omega (arith, i.1));
    }
      where
        no_entry : (v m : ℕ) → distance_at empty v ≡ Some m → ⊥
        no_entry v m e = let n : None ≡ Some m = sym (none v) ∙ e in absurd (cc)

  -- from the frontier of one time step to that of the next
  module _ (n : ℕ) (old new : List (Option ℕ)) (frontier next : List ℕ) (h : IsAdvanced query n old frontier) (more : Advances query.grid (n + 1) old new [] next) (looked : (u : ℕ) → Contains frontier u → IsLookedAt query n new next u) where
    at_most : (v m : ℕ) → (distance_at old v ≡ Some m) ⊎ ((m ≡ n + 1) × Contains next v) → m ≤ n + 1
    at_most v m (inl e) = let l = h.at_most v m e in omega (arith, l)
    at_most v m (inr p) = omega (arith, p.0)

    by_next : (v : ℕ) → HasEntry new v → (m : ℕ) × (distance_at new v ≡ Some m) × (m ≤ n + 1)
    by_next v (m, e) = (m, e, at_most v m (more.fresh v m e))

    keeps : (v : ℕ) → HasEntry old v → HasEntry new v
    keeps = entry_kept query.grid (n + 1) old new [] next more

    -- a cell that can be entered now has an entry
    stepped : (v : ℕ) → CanBe query (n + 1) v → HasEntry new v
    stepped v i = step (can_before query n v i).1.1.0.2
      where
        u : ℕ
        u = (can_before query n v i).0

        at_u : CanBe query n u
        at_u = (can_before query n v i).1.0

        entry : HasEntry old u
        entry = let r = h.bounds n u (omega arith) at_u in (r.0, r.1)

        goes : MayGo query n u v
        goes = (can_allowed query n u at_u, (can_allowed query (n + 1) v i, (can_before query n v i).1.1.1))

        beside : IsFreeNeighbour query.grid u v → Contains frontier u ⊎ ((w : ℕ) → IsFreeNeighbour query.grid u w → HasEntry old w) → HasEntry new v
        beside s (inl j) = (looked u j).entered v s goes
        beside s (inr f) = keeps v (f v s)

        step : (u ≡ v) ⊎ IsBeside query.grid u v → HasEntry new v
        step (inl e) = subst (HasEntry new) e (keeps u entry)
        step (inr b) = beside ((can_before query n v i).1.1.0.1, b) (h.closed u entry)

    bounds : (t v : ℕ) → CanBe query t v → (t < n + 1) ⊎ (n + 1 ≤ t) → t ≤ n + 1 → (m : ℕ) × (distance_at new v ≡ Some m) × (m ≤ t)
    bounds t v i (inl l) b = let r = h.bounds t v (omega (arith, l)) i in (r.0, more.kept v r.0 r.1, r.2)
    bounds t v i (inr l) b =
        let e : t ≡ n + 1 = omega (arith, l, b) in
        let r = by_next v (stepped v (subst (λ k. CanBe query k v) e i)) in
        (r.0, r.1, omega (arith, r.2, e))

    closed : (u m : ℕ) → (distance_at old u ≡ Some m) ⊎ ((m ≡ n + 1) × Contains next u) → Contains next u ⊎ ((v : ℕ) → IsFreeNeighbour query.grid u v → HasEntry new v)
    closed u m (inr p) = inl p.1
    closed u m (inl e) = go (h.closed u (m, e))
      where
        go : Contains frontier u ⊎ ((v : ℕ) → IsFreeNeighbour query.grid u v → HasEntry old v) → Contains next u ⊎ ((v : ℕ) → IsFreeNeighbour query.grid u v → HasEntry new v)
        go (inl i) = (looked u i).waits
        go (inr f) = inr (λ v s. keeps v (f v s))

    at_start : (v : ℕ) → (distance_at old v ≡ Some 0) ⊎ ((0 ≡ n + 1) × Contains next v) → v ≡ query.start
    at_start v (inl e) = h.at_start v e
    at_start v (inr p) = absurd (omega (arith, p.0))

    free : (v : ℕ) → Contains [] v ⊎ IsFree query.grid v → IsFree query.grid v
    free v (inl i) = absurd (omega (arith, i.1))
    free v (inr f) = f

    pub advanced_next : IsAdvanced query (n + 1) new next
    advanced_next = record {
      each = more.same_length ∙ h.each;
      at_most = λ v m e. at_most v m (more.fresh v m e);
      at_start = λ v e. at_start v (more.fresh v 0 e);
      bounds = λ t v l i. bounds t v i (cases_lt t (n + 1)) l;
      closed = λ u e. closed u e.0 (more.fresh u e.0 e.1);
      free = λ v i. free v (more.listed v i);
    }

  -- an entry as AreEarliest has it
  by_entry : (t : ℕ) (o : Option ℕ) → (m : ℕ) × (o ≡ Some m) × (m ≤ t) → MatchOption o ⊥ (λ n. n ≤ t)
  by_entry t o r = subst (λ (p : Option ℕ). MatchOption p ⊥ (λ n. n ≤ t)) (sym r.1) r.2

  module _ (n : ℕ) (table : List (Option ℕ)) (frontier : List ℕ) (h : IsAdvanced query n table frontier) where
    -- where there is no cell to go on from the table is done
    pub earliest_early : length frontier ≡ 0 → AreEarliest query table
    earliest_early none = record { bounds = λ t v l i. by_entry t (distance_at table v) (by t v i); at_start = h.at_start }
      where
        closed : (u v : ℕ) → HasEntry table u → IsFreeNeighbour query.grid u v → HasEntry table v
        closed u v e s = ⊎_elim (λ i. absurd (omega (arith, i.1, none))) (λ f. f v s) (h.closed u e)

        step : (u v : ℕ) → HasEntry table u → IsFree query.grid v → (u ≡ v) ⊎ IsBeside query.grid u v → HasEntry table v
        step u v e f (inl s) = subst (HasEntry table) s e
        step u v e f (inr b) = closed u v e (f, b)

        late : (t v : ℕ) → n < t → HasEntry table v → (m : ℕ) × (distance_at table v ≡ Some m) × (m ≤ t)
        late t v l (m, e) = let b = h.at_most v m e in (m, e, omega (arith, b, l))

        by : (t v : ℕ) → CanBe query t v → (m : ℕ) × (distance_at table v ≡ Some m) × (m ≤ t)
        by zero v i = h.bounds 0 v (omega arith) i
        by (suc t) v i = go (by t i.1.0 i.1.1.0) (cases_lt n (suc t))
          where
            go : (m : ℕ) × (distance_at table i.1.0 ≡ Some m) × (m ≤ t) → (n < suc t) ⊎ (suc t ≤ n) → (m : ℕ) × (distance_at table v ≡ Some m) × (m ≤ suc t)
            go r (inl l) = late (suc t) v l (step i.1.0 v (r.0, r.1) i.1.1.1.0.1 i.1.1.1.0.2)
            go r (inr l) = h.bounds (suc t) v l i

module _ (g : Grid) (constraints : List Constraint) (start goal bound : ℕ) where
  abbrev By : List (Option ℕ) → Query
  By table = record { grid = g; table = table; constraints = constraints; start = start; goal = goal; bound = bound }

  -- where the agent can be has nothing to do with the query's table
  can_by : (one other : List (Option ℕ)) (t v : ℕ) → CanBe (By one) t v → CanBe (By other) t v
  can_by one other zero v i = i
  can_by one other (suc t) v i = (i.0, (i.1.0, (can_by one other t i.1.0 i.1.1.0, i.1.1.1)))

  pub earliest_by : (one other table : List (Option ℕ)) → AreEarliest (By one) table → AreEarliest (By other) table
  earliest_by one other table h = record { bounds = λ t v l i. h.bounds t v l (can_by other one t v i); at_start = h.at_start }
