-- The f-levels of a search, as lists: those that are emptied, and the three to come.
use Rattle.std.proofs.Common.{◌≡◌, ◌⊎◌, ◌↔◌, ℕ, zero, suc, ◌+◌, ◌-◌, ◌<◌, ◌≤◌, List, [], ◌∷◌, ◌++◌, length, Option, Some, None, Contains, inl, inr, subst, subst₂, sym, refl, ap, ◌∙◌, ⊎_elim, arith}
use Rattle.std.proofs.lemmas.Bool.{cases_lt}
use Rattle.std.proofs.lemmas.List.{get_or_append_left, get_or-append-add, get_or_past, length-append}
use Rattle.mapf_grid.specs.Grid.{IsFree, cells}
use Rattle.mapf_grid.proofs.Members.{nowhere}
use Rattle.mapf_low.specs.Query.{Query, MayEnd}
use Rattle.mapf_low.specs.declared.constraint.Constraint.TheVariants.{Vertex}
use Rattle.mapf_low.specs.Walk.{distance_at}
use Rattle.mapf_low.specs.Forwards.FLevels.{level_at, IsAdded, IsWithin, Grows, SomeLeads, Closes, ArePlaced, InFLevels, IsSearched}
use Rattle.mapf_low.specs.Reached.{EndsAt}
use Rattle.mapf_low.proofs.Places.{free_below}
use Rattle.mapf_low.proofs.forwards.FLevelStates.{begins, AreFLevels, Ground, levels_reach, goal_at, match_at, match_to}
use Rattle.mapf_low.proofs.forwards.Searching.{IsSearching, IsClosed, IsSpilled, ends_here, goes_on, all_levels}

-- f-level k has the cell
abbrev pub Has : List (List ℕ) → ℕ → ℕ → Type 0
Has levels k v = Contains (level_at levels k) v

-- those that are emptied, this one, and the two after it
abbrev pub all : List (List ℕ) → List ℕ → List ℕ → List ℕ → List (List ℕ)
all levels now next after = levels ++ now ∷ next ∷ after ∷ []

-- an f-level behind those that are emptied
behind : (levels more : List (List ℕ)) (k j : ℕ) → length levels + j ≡ k → level_at (levels ++ more) k ≡ level_at more j
behind levels more k j e = ap (λ n. level_at (levels ++ more) n) (sym e) ∙ get_or-append-add levels more j []

ahead : (levels more : List (List ℕ)) (k : ℕ) → k < length levels → level_at (levels ++ more) k ≡ level_at levels k
ahead levels more k l = get_or_append_left levels more [] k l

-- the same f-level in another list
as_same : (a b : List ℕ) (v : ℕ) → a ≡ b → Contains a v ↔ Contains b v
as_same a b v e = (subst (λ xs. Contains xs v) e, subst (λ xs. Contains xs v) (sym e))

pub past_all : (levels : List (List ℕ)) (k v : ℕ) → length levels ≤ k → ¬ Has levels k v
past_all levels k v l i = nowhere (subst (λ xs. Contains xs v) (get_or_past levels k [] l) i)

-- the last f-level of a list
pub last_has : (levels : List (List ℕ)) (new : List ℕ) (k v : ℕ) → k ≡ length levels → Contains new v → Has (levels ++ new ∷ []) k v
last_has levels new k v e i = subst (λ xs. Contains xs v) (sym (behind levels (new ∷ []) k 0 (omega (arith, e)))) i

module _ (query : Query) (nearest : ℕ) (ground : Ground query nearest) where
  -- at first there is the start alone
  pub search_first : (levels : List (List ℕ)) (one now next after : List ℕ) → levels ≡ [] → one ≡ [] → next ≡ [] → after ≡ [] → IsFree query.grid query.start → (¬ Contains query.constraints (Vertex query.start 0)) → IsAdded query.start one now →
      IsSearching query nearest (length levels) (Has (all levels now next after))
  search_first levels one now next after none empty no_next no_after free open_start added =
      subst (λ ls. IsSearching query nearest (length ls) (Has (all ls now next after))) (sym none) (
      subst (λ xs. IsSearching query nearest 0 (Has (all [] now xs after))) (sym no_next) (
      subst (λ xs. IsSearching query nearest 0 (Has (all [] now [] xs))) (sym no_after) (
      subst (λ xs. IsSearching query nearest 0 (Has (all [] xs [] []))) (sym (is added)) begun
      )
      )
      )
    where
      is : IsAdded query.start one now → now ≡ query.start ∷ []
      is (inl (i, _)) = absurd (nowhere (subst (λ xs. Contains xs query.start) empty i))
      is (inr e) = e ∙ ap (λ xs. xs ++ query.start ∷ []) empty

      only : (k v : ℕ) → Has (all [] (query.start ∷ []) [] []) k v → (k ≡ 0) × (v ≡ query.start)
      only zero v (zero, l, e) = (refl, sym e)
      only zero v (suc j, l, e) = absurd (omega (arith, l))
      only (suc zero) v i = absurd (nowhere i)
      only (suc (suc zero)) v i = absurd (nowhere i)
      only (suc (suc (suc k))) v i = absurd (nowhere i)

      here : Has (all [] (query.start ∷ []) [] []) 0 query.start
      here = (0, omega arith, refl)

      begun : IsSearching query nearest 0 (Has (all [] (query.start ∷ []) [] []))
      begun = record {
        placed = λ k v i. (
          subst (IsFree query.grid) (sym (only k v i).1) free,
          subst (λ w. w < cells query.grid) (sym (only k v i).1) (free_below query.grid query.start ground.posed.sizes free),
          subst (λ w. IsWithin query (nearest + k) w) (sym (only k v i).1) (match_to (distance_at query.table query.start) nearest (λ n. n ≤ nearest + k) ground.nearest_is (omega arith)),
        );
        sound = λ k v i. begins (only k v i).1 (only k v i).0 open_start;
        closed = λ k more u v few l. absurd (omega (arith, l));
        first = λ _. here;
        before = λ k l. absurd (omega (arith, l));
      }

  -- where the agent doesn't arrive in these f-levels, it doesn't by that time
  pub no_arrival : (levels : List (List ℕ)) (K : ℕ) → ((k : ℕ) → k < K → Has levels k query.goal → ¬ MayEnd query (nearest + k)) → (t : ℕ) → t < nearest + K → ¬ EndsAt query (InFLevels query nearest levels) t
  no_arrival levels K before t l a =
      let p = match_at (distance_at query.table query.goal) 0 (λ n. (nearest ≤ t + n) × Has levels (t + n - nearest) query.goal) (goal_at query ground.posed ground.distances) a.0 in
      let e : nearest + (t + 0 - nearest) ≡ t = omega (arith, p.0) in
      before (t + 0 - nearest) (omega (arith, l, p.0)) p.1 (subst (λ n. MayEnd query n) (sym e) a.1)

  -- where it doesn't arrive in any of them, it never does
  pub never_arrives : (levels : List (List ℕ)) → ((k : ℕ) → k < length levels → Has levels k query.goal → ¬ MayEnd query (nearest + k)) → (t : ℕ) → ¬ EndsAt query (InFLevels query nearest levels) t
  never_arrives levels before t =
      no_arrival levels (t + 1) (λ k _ i. ⊎_elim (λ l. before k l i) (λ l. absurd (past_all levels k query.goal l i)) (cases_lt k (length levels))) t (omega arith)

  -- what is known when the search ends
  pub searched_to : (sum : ℕ) (levels : List (List ℕ)) → sum ≤ query.bound → AreFLevels query sum nearest (Has levels) → ((t : ℕ) → t < sum → ¬ EndsAt query (InFLevels query nearest levels) t) → nearest ≤ sum →
      Has levels (sum - nearest) query.goal → MayEnd query sum → nearest + length levels ≤ sum + 1 → IsSearched query nearest levels (Some sum)
  searched_to sum levels l h before low here free few = record {
    within = l;
    reached = λ count. levels_reach query sum nearest (Has levels) ground count h;
    before = before;
    ends = (
      match_to (distance_at query.table query.goal) 0 (λ n. (nearest ≤ sum + n) × Has levels (sum + n - nearest) query.goal) (goal_at query ground.posed ground.distances)
          (omega (arith, low), subst (λ k. Has levels k query.goal) (let e : sum - nearest ≡ sum + 0 - nearest = omega arith in e) here),
      free,
    );
    few = few;
    placed = h.placed;
  }

  pub searched_none : (levels : List (List ℕ)) → AreFLevels query query.bound nearest (Has levels) → ((t : ℕ) → t < query.bound + 1 → ¬ EndsAt query (InFLevels query nearest levels) t) →
      nearest + length levels ≤ query.bound + 1 → IsSearched query nearest levels None
  searched_none levels h before few = record {
    within = omega arith;
    reached = λ count. levels_reach query query.bound nearest (Has levels) ground count h;
    before = λ t l. before t (omega (arith, l));
    ends = before query.bound (omega arith);
    few = few;
    placed = h.placed;
  }

  module _ (levels : List (List ℕ)) (now next after : List ℕ) (s : IsSearching query nearest (length levels) (Has (all levels now next after))) where
    -- what is known of the f-level to be emptied
    pub placed_now : ArePlaced query (nearest + length levels) now
    placed_now v i = s.placed (length levels) v (subst (λ xs. Contains xs v) (sym (behind levels (now ∷ next ∷ after ∷ []) (length levels) 0 (omega arith))) i)

    -- where nothing is left, or the bound is reached, these are all f-levels
    pub whole_search : (bound : ℕ) → nearest + length levels ≤ bound + 1 → ((k v : ℕ) → length levels ≤ k → nearest + k ≤ bound → ¬ Has (all levels now next after) k v) → AreFLevels query bound nearest (Has levels)
    whole_search bound l over =
        all_levels query nearest (length levels) bound (Has (all levels now next after)) (Has levels) s l
        (λ k v m. as_same (level_at levels k) (level_at (all levels now next after) k) v (sym (ahead levels (now ∷ next ∷ after ∷ []) k m)))
        (λ k v m. past_all levels k v m) over

    pub before_end : (k : ℕ) → k < length levels → Has levels k query.goal → ¬ MayEnd query (nearest + k)
    before_end k l i = s.before k l ((as_same (level_at levels k) (level_at (all levels now next after) k) query.goal (sym (ahead levels (now ∷ next ∷ after ∷ []) k l))).0 i)

    -- where the three to come are empty
    pub nothing_left : now ≡ [] → next ≡ [] → after ≡ [] → (k v : ℕ) → length levels ≤ k → ¬ Has (all levels now next after) k v
    nothing_left a b c k v l i =
        empty (k - length levels) (subst (λ xs. Contains xs v) (behind levels (now ∷ next ∷ after ∷ []) k (k - length levels) (omega (arith, l))) i)
      where
        empty : (j : ℕ) → ¬ Contains (level_at (now ∷ next ∷ after ∷ []) j) v
        empty zero h = nowhere (subst (λ xs. Contains xs v) a h)
        empty (suc zero) h = nowhere (subst (λ xs. Contains xs v) b h)
        empty (suc (suc zero)) h = nowhere (subst (λ xs. Contains xs v) c h)
        empty (suc (suc (suc j))) h = nowhere h

  module _ (levels : List (List ℕ)) (now next after : List ℕ) (s : IsSearching query nearest (length levels) (Has (all levels now next after)))
      (sum : ℕ) (long : sum ≡ nearest + length levels) (new : List ℕ) (closes : Closes query sum now new) (placed : ArePlaced query sum new) where
    placed_here : ArePlaced query (nearest + length levels) new
    placed_here = subst (λ n. ArePlaced query n new) long placed

    closed_as : (D : List (List ℕ)) (more : List (List ℕ)) → D ≡ levels ++ new ∷ more → IsClosed query nearest (length levels) now new (Has (all levels now next after)) (Has D)
    closed_as D more e =
        let K : ℕ = length levels in
        subst (λ ls. IsClosed query nearest (length levels) now new (Has (all levels now next after)) (Has ls)) (sym e) (record {
          closes = subst (λ n. Closes query n now new) long closes;
          was = λ v. as_same (level_at (all levels now next after) (length levels)) now v (behind levels (now ∷ next ∷ after ∷ []) (length levels) 0 (omega arith));
          is = λ v. as_same (level_at (levels ++ new ∷ more) (length levels)) new v (behind levels (new ∷ more) (length levels) 0 (omega arith));
          lower = λ k v l. as_same (level_at (levels ++ new ∷ more) k) (level_at (all levels now next after) k) v (ahead levels (new ∷ more) k l ∙ sym (ahead levels (now ∷ next ∷ after ∷ []) k l));
        })

    -- the f-levels with this one as the last
    last_levels : AreFLevels query sum nearest (Has (levels ++ new ∷ []))
    last_levels =
        subst (λ n. AreFLevels query n nearest (Has (levels ++ new ∷ []))) (sym long)
        (ends_here query nearest (length levels) (Has (all levels now next after)) (Has (levels ++ new ∷ [])) now new ground s (closed_as (levels ++ new ∷ []) [] refl) placed_here
        (λ k v l. past_all (levels ++ new ∷ []) k v (omega (arith, l, length-append levels (new ∷ [])))))

    -- none of the others had an arrival
    before_last : (k : ℕ) → k < length levels → Has (levels ++ new ∷ []) k query.goal → ¬ MayEnd query (nearest + k)
    before_last k l i = s.before k l ((as_same (level_at (levels ++ new ∷ []) k) (level_at (all levels now next after) k) query.goal (ahead levels (new ∷ []) k l ∙ sym (ahead levels (now ∷ next ∷ after ∷ []) k l))).0 i)

    -- what is known where the agent can end in it
    pub searched_here : sum ≤ query.bound → Contains new query.goal × MayEnd query sum → IsSearched query nearest (levels ++ new ∷ []) (Some sum)
    searched_here l met =
        searched_to sum (levels ++ new ∷ []) l last_levels
        (λ t m. no_arrival (levels ++ new ∷ []) (length levels) before_last t (omega (arith, m, long)))
        (omega (arith, long)) (last_has levels new (sum - nearest) query.goal (omega (arith, long)) met.0) met.1
        (omega (arith, long, length-append levels (new ∷ [])))

    module _ (next2 after2 : List ℕ) (to_next : Grows (SomeLeads query sum 1 new) next next2) (to_after : Grows (SomeLeads query sum 2 new) after after2)
        (none : ¬ (Contains new query.goal × MayEnd query sum)) where
      D_is : all (levels ++ new ∷ []) next2 after2 [] ≡ levels ++ new ∷ next2 ∷ after2 ∷ [] ∷ []
      D_is = Rattle.std.proofs.lemmas.List.append_assoc levels (new ∷ []) (next2 ∷ after2 ∷ [] ∷ [])

      spilled : IsSpilled query nearest (length levels) new (Has (all levels now next after)) (Has (all (levels ++ new ∷ []) next2 after2 []))
      spilled =
          subst (λ ls. IsSpilled query nearest (length levels) new (Has (all levels now next after)) (Has ls)) (sym D_is) (record {
            next = λ v. joined v 1 next next2 (behind levels (now ∷ next ∷ after ∷ []) (length levels + 1) 1 refl) (behind levels (new ∷ next2 ∷ after2 ∷ [] ∷ []) (length levels + 1) 1 refl) to_next;
            after = λ v. joined v 2 after after2 (behind levels (now ∷ next ∷ after ∷ []) (length levels + 2) 2 refl) (behind levels (new ∷ next2 ∷ after2 ∷ [] ∷ []) (length levels + 2) 2 refl) to_after;
            past = past;
          })
        where
          joined : (v more : ℕ) (xs ys : List ℕ) → level_at (all levels now next after) (length levels + more) ≡ xs → level_at (levels ++ new ∷ next2 ∷ after2 ∷ [] ∷ []) (length levels + more) ≡ ys →
              Grows (SomeLeads query sum more new) xs ys →
              Has (levels ++ new ∷ next2 ∷ after2 ∷ [] ∷ []) (length levels + more) v ↔ (Has (all levels now next after) (length levels + more) v ⊎ SomeLeads query (nearest + length levels) more new v)
          joined v more xs ys e f h =
              subst₂ (λ a b. Contains b v ↔ (Contains a v ⊎ SomeLeads query (nearest + length levels) more new v)) (sym e) (sym f)
              (subst (λ n. Contains ys v ↔ (Contains xs v ⊎ SomeLeads query n more new v)) long (h.members v))

          past : (k v : ℕ) → length levels + 2 < k → ¬ Has (levels ++ new ∷ next2 ∷ after2 ∷ [] ∷ []) k v
          past k v l i =
              over (k - length levels - 3)
              (subst (λ xs. Contains xs v) (behind levels (new ∷ next2 ∷ after2 ∷ [] ∷ []) k (suc (suc (suc (k - length levels - 3)))) (omega (arith, l))) i)
            where
              over : (j : ℕ) → ¬ Contains (level_at ([] ∷ []) j) v
              over zero h = nowhere h
              over (suc j) h = nowhere h

      -- the search goes on with one f-level more
      pub search_on : IsSearching query nearest (length (levels ++ new ∷ [])) (Has (all (levels ++ new ∷ []) next2 after2 []))
      search_on =
          let one_more : length levels + 1 ≡ length (levels ++ new ∷ []) = omega (arith, length-append levels (new ∷ [])) in
          subst (λ n. IsSearching query nearest n (Has (all (levels ++ new ∷ []) next2 after2 []))) one_more
          (goes_on query nearest (length levels) (Has (all levels now next after)) (Has (all (levels ++ new ∷ []) next2 after2 [])) now new ground s
          (closed_as (all (levels ++ new ∷ []) next2 after2 []) (next2 ∷ after2 ∷ [] ∷ []) D_is) spilled placed_here
          (λ i e. none (i, subst (λ n. MayEnd query n) (sym long) e)))

      -- what is known where nothing is left
      pub searched_empty : next2 ≡ [] → after2 ≡ [] → sum ≤ query.bound → IsSearched query nearest (levels ++ new ∷ []) None
      searched_empty no_next no_after l =
          let one_more : length (levels ++ new ∷ []) ≡ length levels + 1 = length-append levels (new ∷ []) in
          searched_none (levels ++ new ∷ [])
          (whole_search (levels ++ new ∷ []) next2 after2 [] search_on query.bound (omega (arith, long, l, one_more))
          (λ k v m _. nothing_left (levels ++ new ∷ []) next2 after2 [] search_on no_next no_after refl k v m))
          (λ t _. never_arrives (levels ++ new ∷ []) (before_end (levels ++ new ∷ []) next2 after2 [] search_on) t)
          (omega (arith, long, l, one_more))

-- the same, of what was made of them
pub searched_as : {query : Query} {n m : ℕ} {xs ys : List (List ℕ)} {a b : Option ℕ} → n ≡ m → xs ≡ ys → a ≡ b → IsSearched query m ys b → IsSearched query n xs a
searched_as {query} {n} {m} {xs} {ys} {a} e f g s =
    subst (λ k. IsSearched query k xs a) (sym e) (subst (λ ls. IsSearched query m ls a) (sym f) (subst (IsSearched query m ys) (sym g) s))
