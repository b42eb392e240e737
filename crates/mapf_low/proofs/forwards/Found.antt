-- What a search by f-levels found is an agent's own path.
use Rattle.std.proofs.Common.{◌≡◌, ℕ, ◌+◌, ◌<◌, List, Option, Some, None, subst, arith}
use Rattle.std.specs.Option.{unwrap_or}
use Rattle.mapf_grid.proofs.Decide.{up_to}
use Rattle.mapf_low.specs.Query.{Query, IsPosed, HasDistances}
use Rattle.mapf_low.specs.Constraints.{IsAllowed}
use Rattle.mapf_low.specs.OwnPath.{IsOwnPath}
use Rattle.mapf_low.specs.Forwards.FLevels.{InFLevels, IsSearched}
use Rattle.mapf_low.specs.Reached.{EndsAt, AreLinked, IsReconstructed}
use Rattle.mapf_low.proofs.FirstArrival.{Setting, own, none_by_bound}
use Rattle.mapf_low.proofs.HigherBounds.{own_by_bound}
use Rattle.mapf_low.proofs.Reading.{are_linked}

module _ (query : Query) (nearest : ℕ) (levels : List (List ℕ)) (posed : IsPosed query) (distances : HasDistances query) where
  pub setting : (end : Option ℕ) → IsSearched query nearest levels end → (count : ℕ) → Setting query (unwrap_or end query.bound) (InFLevels query nearest levels) count
  setting end s count = record { posed = posed; distances = distances; reached_are = s.reached count }

  known : (end other : Option ℕ) → end ≡ other → IsSearched query nearest levels end → IsSearched query nearest levels other
  known end other is s = subst (IsSearched query nearest levels) is s

  -- what is needed to read it back
  pub found_linked : (end : Option ℕ) (e : ℕ) → end ≡ Some e → IsSearched query nearest levels end → AreLinked query (InFLevels query nearest levels) e
  found_linked end e is s = are_linked query e (InFLevels query nearest levels) (e + 1) e (setting (Some e) (known end (Some e) is s) (e + 1)) (omega arith)

  -- the path that was read back is the agent's own
  pub found_own : (end : Option ℕ) (e : ℕ) (q : List ℕ) → end ≡ Some e → IsSearched query nearest levels end → IsReconstructed query (InFLevels query nearest levels) q 0 e → IsOwnPath query.grid query.start query.goal query.bound query.constraints q
  found_own end e q is s read =
      let t = known end (Some e) is s in
      own_by_bound query.grid query.constraints e query.bound query.start query.goal q t.within
      (own query e (InFLevels query nearest levels) (e + 1) (setting (Some e) t (e + 1)) e q (omega arith) (omega arith) read t.ends t.before)

  -- where there is no sum with which the agent can end, it may take no path
  pub found_none : (end : Option ℕ) → end ≡ None → IsSearched query nearest levels end → (p : List ℕ) → ¬ IsAllowed query.grid query.start query.goal query.bound query.constraints p
  found_none end is s =
      none_by_bound query query.bound (InFLevels query nearest levels) (query.bound + 1) (setting None none (query.bound + 1)) (omega arith) before
    where
      none : IsSearched query nearest levels None
      none = known end None is s

      before : (t : ℕ) → t < query.bound + 1 → ¬ EndsAt query (InFLevels query nearest levels) t
      before t l = up_to (λ k. ¬ EndsAt query (InFLevels query nearest levels) k) query.bound t l (none.before t) none.ends
