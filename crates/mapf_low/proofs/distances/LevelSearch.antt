-- A search by levels finds the lengths of shortest walks.
use Rattle.std.proofs.Common.{◌≡◌, ◌⊎◌, ℕ, suc, zero, ◌+◌, ◌*◌, ◌<◌, ◌≤◌, List, [], length, true, cond, Option, Some, None, MatchOption, get_or, replicate, inl, inr, refl, sym, ◌∙◌, subst, ap, arith, add-one}
use Rattle.std.specs.List.{Contains, All}
use Rattle.std.specs.Option.{is_none}
use Rattle.std.proofs.lemmas.Bool.{cases_lt}
use Rattle.std.proofs.lemmas.List.{length-replicate, get_or-replicate, get_or_past}
use Rattle.std.proofs.lemmas.List.Elements.{Contains-get_or}
use Rattle.std.proofs.lemmas.List.Folds.{sum_by-replicate}
use Rattle.std.proofs.lemmas.Option.{slice_get_within}
use Rattle.mapf_grid.specs.Grid.{Grid, IsFree, Next, HasSizes, cells}
use Rattle.mapf_low.specs.Distances.Levels.{unmarked, Marks, IsFreeNeighbourOfSome}
use Rattle.mapf_low.specs.Walk.{IsWalk, IsDistance, AreDistances}

-- a step may be taken back
pub Next_back : (g : Grid) (u v : ℕ) → Next g u v → Next g v u
Next_back g u v (free_u, free_v, inl e) = (free_v, free_u, inl (sym e))
Next_back g u v (free_u, free_v, inr (inl h)) = (free_v, free_u, inr (inr h))
Next_back g u v (free_u, free_v, inr (inr h)) = (free_v, free_u, inr (inl h))

-- each step from the cell leads to a cell with a distance, of at most one more
abbrev pub IsClosed : Grid → List (Option ℕ) → ℕ → ℕ → Type 0
IsClosed g table c m = (v : ℕ) → Next g c v → (k : ℕ) × (get_or table v None ≡ Some k) × (k ≤ m + 1)

-- the state of the search: the cells with distances up to n, those at n, and at the others all steps were looked at
pub record IsLevel (g : Grid) (goal n : ℕ) (table : List (Option ℕ)) (level : List ℕ) : Type 0 where
  pub each : length table ≡ length g.free
  pub at_goal : get_or table goal None ≡ Some 0
  pub walks : (c m : ℕ) → get_or table c None ≡ Some m → IsFree g c × IsWalk g c goal m × (m ≤ n)
  pub here : (c : ℕ) → Contains level c → get_or table c None ≡ Some n
  pub closed : (c m : ℕ) → get_or table c None ≡ Some m → Contains level c ⊎ IsClosed g table c m
  pub room : 0 < length level → n + unmarked table < length g.free

-- the cells of a level lie in the map
pub level_inside : (g : Grid) (goal n : ℕ) (table : List (Option ℕ)) (level : List ℕ) → length g.free ≡ cells g → IsLevel g goal n table level →
    All (λ c. c < cells g) level
level_inside g goal n table level sizes l k d inside =
    let cell = get_or level k d in
    let free : IsFree g cell = (l.walks cell n (l.here cell (Contains-get_or level k d inside))).0 in
    omega (arith, slice_get_within g.free cell true free, sizes)

-- an empty table has no distance at any place
pub none_in_replicate : (n c : ℕ) → get_or {A = Option ℕ} (replicate n None) c None ≡ None
none_in_replicate n c = go (cases_lt c n)
  where
    go : (c < n) ⊎ (n ≤ c) → get_or {A = Option ℕ} (replicate n None) c None ≡ None
    go (inl inside) = get_or-replicate n c None None inside
    go (inr past) =
        let over : length (replicate {A = Option ℕ} n None) ≤ c = rw length-replicate past in
        get_or_past (replicate n None) c None over

-- the goal alone is marked
pub level_start : (g : Grid) (goal : ℕ) (empty table : List (Option ℕ)) (level : List ℕ) →
    IsFree g goal → empty ≡ replicate (length g.free) None →
    Marks (◌≡◌ goal) 0 empty table [] level → IsLevel g goal 0 table level
level_start g goal empty table level free is h = record {
  each = h.same_length ∙ (ap length is ∙ length-replicate (length g.free) None);
  at_goal = at_goal;
  walks = λ c m e. walks c m (h.fresh c m e);
  here = λ c i. here c (h.listed c i);
  closed = λ c m e. closed c m (h.fresh c m e);
  room = λ some. omega (arith, h.count, count, some);
}
  where
    none : (c : ℕ) → get_or empty c None ≡ None
    none c = subst (λ (t : List (Option ℕ)). get_or t c None ≡ None) (sym is) (none_in_replicate (length g.free) c)

    count : unmarked empty ≡ length g.free
    count =
        let all : unmarked (replicate (length g.free) None) ≡ length g.free * 1 =
        sum_by-replicate (λ (o : Option ℕ). cond (is_none o) 1 0) (length g.free) None in
        let same : unmarked empty ≡ unmarked (replicate (length g.free) None) = ap unmarked is in
        omega (arith, all, same)

    at_goal : get_or table goal None ≡ Some 0
    at_goal = let r = h.marked goal refl in go r.0 r.1 (h.fresh goal r.0 r.1)
      where
        go : (m : ℕ) → get_or table goal None ≡ Some m → (get_or empty goal None ≡ Some m) ⊎ ((m ≡ 0) × (goal ≡ goal) × Contains level goal) → get_or table goal None ≡ Some 0
        go m e (inl old) = absurd (cc (old, none goal))
        go m e (inr (zero_steps, same, i)) = e ∙ ap Some zero_steps

    walks : (c m : ℕ) → (get_or empty c None ≡ Some m) ⊎ ((m ≡ 0) × (goal ≡ c) × Contains level c) → IsFree g c × IsWalk g c goal m × (m ≤ 0)
    walks c m (inl old) = absurd (cc (old, none c))
    walks c m (inr (e, same, i)) =
        (subst (IsFree g) same free, subst (λ k. IsWalk g c goal k) (sym e) (sym same), omega (arith, e))

    here : (c : ℕ) → Contains [] c ⊎ (get_or table c None ≡ Some 0) → get_or table c None ≡ Some 0
    here c (inl i) = absurd (omega (arith, i.1))
    here c (inr e) = e

    closed : (c m : ℕ) → (get_or empty c None ≡ Some m) ⊎ ((m ≡ 0) × (goal ≡ c) × Contains level c) → Contains level c ⊎ IsClosed g table c m
    closed c m (inl old) = absurd (cc (old, none c))
    closed c m (inr (e, same, i)) = inl i

-- from the cells at n all neighbours are marked: the new ones are those at n + 1
pub level_next : (g : Grid) (goal n : ℕ) (old new : List (Option ℕ)) (level next : List ℕ) → 0 < length level →
    IsLevel g goal n old level → Marks (IsFreeNeighbourOfSome g level) (n + 1) old new [] next → IsLevel g goal (n + 1) new next
level_next g goal n old new level next some l h = record {
  each = h.same_length ∙ l.each;
  at_goal = h.kept goal 0 l.at_goal;
  walks = λ c m e. walks c m (h.fresh c m e);
  here = λ c i. here c (h.listed c i);
  closed = λ c m e. closed c m e (h.fresh c m e);
  room = λ more. omega (arith, h.count, l.room some, more);
}
  where
    walks : (c m : ℕ) → (get_or old c None ≡ Some m) ⊎ ((m ≡ n + 1) × IsFreeNeighbourOfSome g level c × Contains next c) → IsFree g c × IsWalk g c goal m × (m ≤ n + 1)
    walks c m (inl e) = let w = l.walks c m e in (w.0, w.1, omega (arith, w.2))
    walks c m (inr (e, (u, i, (free, beside)), j)) =
        let w = l.walks u n (l.here u i) in
        let step : Next g c u = Next_back g u c (w.0, free, inr beside) in
        let walk : IsWalk g c goal (suc n) = (u, step, w.1) in
        (free, subst (λ k. IsWalk g c goal k) (sym (e ∙ add-one n)) walk, omega (arith, e))

    here : (c : ℕ) → Contains [] c ⊎ (get_or new c None ≡ Some (n + 1)) → get_or new c None ≡ Some (n + 1)
    here c (inl i) = absurd (omega (arith, i.1))
    here c (inr e) = e

    at_most : (c m : ℕ) → (get_or old c None ≡ Some m) ⊎ ((m ≡ n + 1) × IsFreeNeighbourOfSome g level c × Contains next c) → m ≤ n + 1
    at_most c m f = (walks c m f).2

    looked : (c m : ℕ) → get_or new c None ≡ Some m → m ≡ n → Contains level c → IsClosed g new c m
    looked c m e is i v (free_c, free_v, inl same) = (m, subst (λ k. get_or new k None ≡ Some m) same e, omega arith)
    looked c m e is i v (free_c, free_v, inr beside) =
        let r = h.marked v (c, i, (free_v, beside)) in
        (r.0, r.1, omega (arith, at_most v r.0 (h.fresh v r.0 r.1), is))

    before : (c m : ℕ) → get_or new c None ≡ Some m → get_or old c None ≡ Some m → Contains level c ⊎ IsClosed g old c m → IsClosed g new c m
    before c m e was (inl i) = let at : get_or old c None ≡ Some n = l.here c i in looked c m e (cc (was, at)) i
    before c m e was (inr done) = λ v step. let r = done v step in (r.0, h.kept v r.0 r.1, r.2)

    closed : (c m : ℕ) → get_or new c None ≡ Some m → (get_or old c None ≡ Some m) ⊎ ((m ≡ n + 1) × IsFreeNeighbourOfSome g level c × Contains next c) →
        Contains next c ⊎ IsClosed g new c m
    closed c m e (inl was) = inr (before c m e was (l.closed c m was))
    closed c m e (inr (is, neighbour, i)) = inl i

-- an entry of the table by its two cases
match_from : (o : Option ℕ) (P : Type 0) (Q : ℕ → Type 0) → (o ≡ None → P) → ((m : ℕ) → o ≡ Some m → Q m) → MatchOption o P Q
match_from None P Q none some = none refl
match_from (Some m) P Q none some = some m refl

-- where no cell is left to look at, no walk is shorter than its cell's distance
walk_marked : (g : Grid) (goal n : ℕ) (table : List (Option ℕ)) (level : List ℕ) → length level ≡ 0 → IsLevel g goal n table level →
    (m c : ℕ) → IsWalk g c goal m → (k : ℕ) × (get_or table c None ≡ Some k) × (k ≤ m)
walk_marked g goal n table level none l zero c same = (0, subst (λ v. get_or table v None ≡ Some 0) (sym same) l.at_goal, omega arith)
walk_marked g goal n table level none l (suc m) c (d, step, walk) =
    let r = walk_marked g goal n table level none l m d walk in
    go r.0 r.1 r.2 (l.closed d r.0 r.1)
  where
    go : (k : ℕ) → get_or table d None ≡ Some k → k ≤ m → Contains level d ⊎ IsClosed g table d k → (k : ℕ) × (get_or table c None ≡ Some k) × (k ≤ suc m)
    go k e le (inl i) = absurd (omega (arith, i.1, none))
    go k e le (inr done) = let r = done c (Next_back g c d step) in (r.0, r.1, omega (arith, r.2, le))

-- then the table has the distances
pub level_end : (g : Grid) (goal n : ℕ) (table : List (Option ℕ)) (level : List ℕ) → length g.free ≡ cells g → length level ≡ 0 → IsLevel g goal n table level →
    AreDistances g goal table
level_end g goal n table level sizes none l = record {
  each = l.each ∙ sizes;
  shortest = λ c inside. match_from (get_or table c None) ((m : ℕ) → ¬ IsWalk g c goal m) (IsDistance g goal c)
      (λ unmarked m walk. let r = walk_marked g goal n table level none l m c walk in absurd (cc (unmarked, r.1)))
      (λ m e. record {
        walk = (l.walks c m e).1;
        least = λ k walk. let r = walk_marked g goal n table level none l k c walk in
            let same : r.0 ≡ m = cc (r.1, e) in omega (arith, same, r.2);
      });
}

-- a number outside the map has no walk to a free cell, so it has no distance
outside_unreached : (g : Grid) (goal : ℕ) → length g.free ≡ cells g → IsFree g goal → (c : ℕ) → cells g ≤ c → (m : ℕ) → ¬ IsWalk g c goal m
outside_unreached g goal sizes free c past zero same =
    let inside : goal < length g.free = slice_get_within g.free goal true free in
    omega (arith, inside, same, past, sizes)
outside_unreached g goal sizes free c past (suc m) (d, step, walk) =
    let inside : c < length g.free = slice_get_within g.free c true step.0 in
    omega (arith, inside, past, sizes)

-- what a table of distances says of any number
pub table_shortest : (g : Grid) (goal : ℕ) (table : List (Option ℕ)) → HasSizes g → IsFree g goal → AreDistances g goal table → (c : ℕ) →
    MatchOption (get_or table c None) ((m : ℕ) → ¬ IsWalk g c goal m) (IsDistance g goal c)
table_shortest g goal table sizes free h c = go (cases_lt c (cells g))
  where
    go : (c < cells g) ⊎ (cells g ≤ c) → MatchOption (get_or table c None) ((m : ℕ) → ¬ IsWalk g c goal m) (IsDistance g goal c)
    go (inl inside) = h.shortest c inside
    go (inr past) =
        let over : length table ≤ c = omega (arith, h.each, past) in
        rw get_or_past (outside_unreached g goal sizes.each_cell free c past)
