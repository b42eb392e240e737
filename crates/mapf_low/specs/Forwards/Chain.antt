-- F-levels that are a path already.
use Rattle.std.specs.Prelude.{◌≡◌, ℕ, ◌+◌, ◌-◌, ◌<◌, List, length, slice_index, Option, Some}
use Rattle.mapf_low.specs.Walk.{distance_at}

-- the cells are one nearer to the goal each, from one that is as far as the sum to the goal
pub record IsChain (table : List (Option ℕ)) (sum : ℕ) (level : List ℕ) : Type 0 where
  pub long : length level ≡ sum + 1
  pub far : (t : ℕ) → t < length level → distance_at table (slice_index level t) ≡ Some (sum - t)
