-- The states that a search for an own path takes: cells at time steps.
use Rattle.std.specs.Prelude.{◌≡◌, ◌≢◌, ℕ, ◌+◌, ◌≤◌, ◌⊎◌, ◌↔◌, List, Option, MatchOption, Contains}
use Rattle.std.specs.List.{AllPairs}
use Rattle.mapf_grid.specs.Grid.{Grid}
use Rattle.mapf_plan.specs.Path.{cost, at}
use Rattle.mapf_low.specs.declared.constraint.Constraint.{Constraint}
use Rattle.mapf_low.specs.Constraints.{IsAllowed}
use Rattle.mapf_low.specs.OwnPath.{IsOwnPath}
use Rattle.mapf_low.specs.Query.{Query}
use Rattle.mapf_low.specs.Walk.{distance_at}

-- the sum of time and distance to the goal
abbrev pub HasSum : List (Option ℕ) → (ℕ → Type 0) → ℕ × ℕ → Type 0
HasSum table P state = MatchOption (distance_at table state.0) ⊥ (λ n. P (state.1 + n))

-- the list has besides the old ones just the states of this f-level, each once
pub record Lists (table : List (Option ℕ)) (sum : ℕ) (level : List ℕ) (old new : List (ℕ × ℕ)) : Type 0 where
  pub once : AllPairs ◌≢◌ new
  pub members : (s : ℕ × ℕ) → Contains new s ↔ (Contains old s ⊎ (Contains level s.0 × HasSum table (λ m. m ≡ sum) s))

-- each state once; none has a sum above the cost of the own path, or above the bound where there is none;
-- and the places of the own path are there at their times
pub record AreTaken (g : Grid) (table : List (Option ℕ)) (start goal bound : ℕ) (constraints : List Constraint) (states : List (ℕ × ℕ)) : Type 0 where
  pub once : AllPairs ◌≢◌ states
  pub near : (p : List ℕ) → IsOwnPath g start goal bound constraints p → (s : ℕ × ℕ) → Contains states s → HasSum table (λ m. m ≤ cost p) s
  pub near_where_none : ((p : List ℕ) → ¬ IsAllowed g start goal bound constraints p) → (s : ℕ × ℕ) → Contains states s → HasSum table (λ m. m ≤ bound) s
  pub path : (p : List ℕ) → IsOwnPath g start goal bound constraints p → (t : ℕ) → t ≤ cost p → Contains states (at p t, t)

-- the same of a query
abbrev pub AreTakenBy : Query → List (ℕ × ℕ) → Type 0
AreTakenBy query states = AreTaken query.grid query.table query.start query.goal query.bound query.constraints states
