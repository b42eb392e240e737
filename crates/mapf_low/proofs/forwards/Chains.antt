-- An f-level whose cells are one nearer to the goal each is read back as it stands.
use Rattle.std.proofs.Common.{◌≡◌, ℕ, ◌+◌, ◌-◌, ◌<◌, ◌≤◌, List, [], length, slice_index, Some, Contains, refl, subst, sym, ◌∙◌, arith}
use Rattle.std.proofs.lemmas.List.{get_or_default}
use Rattle.std.proofs.lemmas.List.Elements.{Contains-get_or}
use Rattle.std.proofs.Math.ListN.{get_or-eq_default}
use native.Mathlib.Decide.{ℕ_discrete}
use Rattle.mapf_grid.proofs.Decide.{by_cases}
use Rattle.mapf_low.specs.Query.{Query}
use Rattle.mapf_low.specs.Walk.{distance_at}
use Rattle.mapf_low.specs.Forwards.Chain.{IsChain}
use Rattle.mapf_low.specs.Forwards.FLevels.{level_at, InFLevels}
use Rattle.mapf_low.specs.Reached.{AreLinked, ComesFrom, IsSmallestBefore, IsReconstructed}
use Rattle.mapf_low.proofs.forwards.FLevelStates.{match_to, match_entry}
use Rattle.mapf_low.proofs.forwards.Leading.{same_distance}

module _ (query : Query) (nearest : ℕ) (levels : List (List ℕ)) (level : List ℕ) (one : length levels ≡ 1) (is : level ≡ level_at levels 0) (chain : IsChain query.table nearest level) where
  -- a state of an f-level has one place in it
  in_chain : (t n w : ℕ) → t ≤ nearest → distance_at query.table w ≡ Some n → t + n ≡ nearest → Contains level w → w ≡ slice_index level t
  in_chain t n w l e s i =
      let here : slice_index level i.0 ≡ w = sym (get_or_default level i.0 w 0 i.1) ∙ i.2 in
      let at : distance_at query.table w ≡ Some (nearest - i.0) = subst (λ v. distance_at query.table v ≡ Some (nearest - i.0)) here (chain.far i.0 i.1) in
      let same : n ≡ nearest - i.0 = same_distance (distance_at query.table w) n (nearest - i.0) e at in
      let place : i.0 ≡ t = omega (arith, same, s, l, i.1, chain.long) in
      sym here ∙ (subst (λ k. slice_index level i.0 ≡ slice_index level k) place refl)

  -- at each time step there is one state
  pub at_chain : (t w : ℕ) → t ≤ nearest → InFLevels query nearest levels t w → w ≡ slice_index level t
  at_chain t w l h =
      let near = match_entry (distance_at query.table w) (λ n. (nearest ≤ t + n) × Contains (level_at levels (t + n - nearest)) w) h in
      let in_level = near.2 in
      by_cases (ℕ_discrete 0 (t + near.0 - nearest))
      (λ e. in_chain t near.0 w l near.1 (omega (arith, e, in_level.0)) (subst (λ xs. Contains xs w) (sym is) (subst (λ k. Contains (level_at levels k) w) (sym e) in_level.1)))
      (λ n.
      let none : level_at levels (t + near.0 - nearest) ≡ [] = get_or-eq_default levels [] (let beyond : length levels ≤ t + near.0 - nearest = omega (arith, n, one) in beyond) in
      let nowhere : Contains [] w = subst (λ xs. Contains xs w) none in_level.1 in
      absurd (omega (arith, nowhere.1)))

  -- the state of a time step is in the f-level
  chain_at : (t : ℕ) → t ≤ nearest → InFLevels query nearest levels t (slice_index level t)
  chain_at t l =
      let inside : t < length level = omega (arith, l, chain.long) in
      let first : 0 ≡ t + (nearest - t) - nearest = omega (arith, l) in
      match_to (distance_at query.table (slice_index level t)) (nearest - t) (λ n. (nearest ≤ t + n) × Contains (level_at levels (t + n - nearest)) (slice_index level t)) (chain.far t inside)
      (omega (arith, l), subst (λ k. Contains (level_at levels k) (slice_index level t)) first (subst (λ xs. Contains xs (slice_index level t)) is (Contains-get_or level t 0 inside)))

  pub chain_read : AreLinked query (InFLevels query nearest levels) nearest → InFLevels query nearest levels nearest query.goal →
      IsReconstructed query (InFLevels query nearest levels) level 0 nearest
  chain_read linked arrived = record {
    long = chain.long;
    ends = sym (at_chain nearest query.goal (omega arith) arrived);
    back = back;
  }
    where
      back : (t : ℕ) → 0 ≤ t → t < nearest → IsSmallestBefore query (t + 1) (InFLevels query nearest levels t) (slice_index level (t + 1)) (slice_index level t)
      back t _ l =
          let from = linked.linked t (slice_index level (t + 1)) l (chain_at (t + 1) (omega (arith, l))) in
          let same : from.0 ≡ slice_index level t = at_chain t from.0 (omega (arith, l)) from.1.0 in
          record {
            comes = subst (λ u. ComesFrom query (t + 1) (InFLevels query nearest levels t) (slice_index level (t + 1)) u) same from.1;
            smallest = λ w c. let other : w ≡ slice_index level t = at_chain t w (omega (arith, l)) c.0 in omega (arith, other);
          }
