-- A path that is read back, one cell more at a time.
use Rattle.std.proofs.Common.{◌≡◌, ◌≢◌, ℕ, zero, suc, ◌+◌, ◌<◌, ◌≤◌, List, get_or, slice_index, set, replicate, subst, subst₂, sym, ◌∙◌, arith}
use Rattle.std.proofs.lemmas.List.{length-set, get_or-set_other, get_or-set_same, length-replicate, get_or-replicate, get_or_default}
use native.Mathlib.Decide.{ℕ_discrete}
use Rattle.mapf_grid.specs.Grid.{IsFree}
use Rattle.mapf_grid.proofs.Decide.{by_cases}
use Rattle.mapf_low.specs.Query.{Query}
use Rattle.mapf_low.specs.Reached.{AreLinked, ComesFrom, IsSmallestBefore, IsReconstructed}
use Rattle.mapf_low.proofs.FirstArrival.{Setting}

-- each cell that is reached is free, and was entered from one that was reached before
pub are_linked : (query : Query) (bound : ℕ) (At : ℕ → ℕ → Type 0) (count end : ℕ) → Setting query bound At count → end < count → AreLinked query At end
are_linked query bound At count end s inside = record {
  free = free;
  linked = λ t v l i. ((s.reached_are.next t (omega (arith, l, inside)) v).0 i).1;
}
  where
    free : (t v : ℕ) → t ≤ end → At t v → IsFree query.grid v
    free zero v l i = subst (IsFree query.grid) (sym ((s.reached_are.first v).0 i).0) s.posed.start
    free (suc t) v l i =
        let n : suc t ≡ t + 1 = omega arith in
        let there : At (t + 1) v = subst (λ k. At k v) n i in
        (((s.reached_are.next t (omega (arith, l, inside)) v).0 there).1.1.1.0).1

module _ (query : Query) (At : ℕ → ℕ → Type 0) where
  -- before anything is read back, the list is the goal alone, over and over
  pub read_none : (path : List ℕ) (end : ℕ) → path ≡ replicate (end + 1) query.goal → IsReconstructed query At path end end
  read_none path end e = subst (λ p. IsReconstructed query At p end end) (sym e) (record {
    long = length-replicate (end + 1) query.goal;
    ends = get_or-replicate (end + 1) end query.goal 0 (omega arith);
    back = λ t l m. absurd (omega (arith, l, m));
  })

  pub read_more : (path : List ℕ) (t u end : ℕ) → t < end → IsReconstructed query At path (t + 1) end → IsSmallestBefore query (t + 1) (At t) (slice_index path (t + 1)) u →
      IsReconstructed query At (set path t u) t end
  read_more path t u end l h s = record {
    long = length-set path t u ∙ h.long;
    ends = get_or-set_other path t end u 0 (let ne : end ≢ t = omega (arith, l) in ne) ∙ h.ends;
    back = back;
  }
    where
      later : (k : ℕ) → t < k → slice_index (set path t u) k ≡ slice_index path k
      later k m = get_or-set_other path t k u 0 (let ne : k ≢ t = omega (arith, m) in ne)

      here : slice_index (set path t u) t ≡ u
      here = get_or-set_same path t u 0 (omega (arith, l, h.long))

      back : (k : ℕ) → t ≤ k → k < end → IsSmallestBefore query (k + 1) (At k) (slice_index (set path t u) (k + 1)) (slice_index (set path t u) k)
      back k m b =
          by_cases (ℕ_discrete t k)
          (λ e. subst (λ n. IsSmallestBefore query (n + 1) (At n) (slice_index (set path t u) (n + 1)) (slice_index (set path t u) n)) e
          (subst₂ (λ v w. IsSmallestBefore query (t + 1) (At t) v w) (sym (later (t + 1) (omega arith))) (sym here) s))
          (λ n.
          let a : t < k = omega (arith, m, n) in
          subst₂ (λ v w. IsSmallestBefore query (k + 1) (At k) v w) (sym (later (k + 1) (omega (arith, a)))) (sym (later k a)) (h.back k (omega (arith, a)) b))

  -- what is read at a time step is the smallest cell that the next may be entered from
  pub read_step : (path : List ℕ) (t u end cell : ℕ) → t < end → IsReconstructed query At path (t + 1) end → cell ≡ get_or path (t + 1) cell →
      IsSmallestBefore query (t + 1) (At t) cell u → IsReconstructed query At (set path t u) t end × At t (slice_index (set path t u) t)
  read_step path t u end cell l h at s = (read_more path t u end l h here, there)
    where
      same_cell : cell ≡ slice_index path (t + 1)
      same_cell = at ∙ get_or_default path (t + 1) cell 0 (omega (arith, l, h.long))

      here : IsSmallestBefore query (t + 1) (At t) (slice_index path (t + 1)) u
      here = subst (λ a. IsSmallestBefore query (t + 1) (At t) a u) same_cell s

      there : At t (slice_index (set path t u) t)
      there = subst (λ v. At t v) (sym (get_or-set_same path t u 0 (omega (arith, l, h.long)))) here.comes.0

  -- the cell that was read last is free, and may be entered from one that was reached before
  pub read_needs : (path : List ℕ) (t end cell : ℕ) → AreLinked query At end → t < end → IsReconstructed query At path (t + 1) end → At (t + 1) (slice_index path (t + 1)) →
      cell ≡ get_or path (t + 1) cell → IsFree query.grid cell × ((u : ℕ) × ComesFrom query (t + 1) (At t) cell u)
  read_needs path t end cell linked l h i at = (linked.free (t + 1) cell (omega (arith, l)) inside, linked.linked t cell l inside)
    where
      inside : At (t + 1) cell
      inside = subst (λ v. At (t + 1) v) (sym (at ∙ get_or_default path (t + 1) cell 0 (omega (arith, l, h.long)))) i

  -- at the end, on the goal
  pub read_first : (path : List ℕ) (end : ℕ) → path ≡ replicate (end + 1) query.goal → At end query.goal → IsReconstructed query At path end end × At end (slice_index path end)
  read_first path end e i =
      let h = read_none path end e in
      (h, subst (λ v. At end v) (sym h.ends) i)
