-- Tables that tell of each cell a time step before which an agent can't be there. A search backwards goes by one.
use Rattle.std.specs.Prelude.{◌≡◌, ◌⊎◌, ℕ, ◌+◌, ◌≤◌, List, length, Option, Some, MatchOption, Contains}
use Rattle.mapf_grid.specs.Grid.{Grid, IsFree}
use Rattle.mapf_low.specs.declared.constraint.Constraint.TheVariants.{Vertex}
use Rattle.mapf_low.specs.Backwards.Tracing.{CanBe}
use Rattle.mapf_low.specs.Forwards.FLevels.{IsAllowedStep}
use Rattle.mapf_low.specs.Distances.Levels.{IsFreeNeighbour}
use Rattle.mapf_low.specs.Query.{Query}
use Rattle.mapf_low.specs.Walk.{distance_at}

-- where the agent can be by the bound there is an entry, no later than it can be there; an entry 0 is the start's alone
pub record AreEarliest (query : Query) (table : List (Option ℕ)) : Type 0 where
  pub bounds : (t v : ℕ) → t ≤ query.bound → CanBe query t v → MatchOption (distance_at table v) ⊥ (λ n. n ≤ t)
  pub at_start : (v : ℕ) → distance_at table v ≡ Some 0 → v ≡ query.start

-- the query's table is such a one
abbrev pub HasEarliest : Query → Type 0
HasEarliest query = AreEarliest query query.table

-- nothing forbids to be on u at this time, or to step from there to v
abbrev pub MayGo : Query → ℕ → ℕ → ℕ → Type 0
MayGo query t u v = (¬ Contains query.constraints (Vertex u t)) × IsAllowedStep query (t + 1) u v

abbrev pub HasEntry : List (Option ℕ) → ℕ → Type 0
HasEntry table v = (m : ℕ) × (distance_at table v ≡ Some m)

-- entries stand, a new one is this time step and its cell has joined the cells to go on from, and all that joined are free
pub record Advances (g : Grid) (time : ℕ) (old new : List (Option ℕ)) (old_cells new_cells : List ℕ) : Type 0 where
  pub same_length : length new ≡ length old
  pub kept : (v m : ℕ) → distance_at old v ≡ Some m → distance_at new v ≡ Some m
  pub fresh : (v m : ℕ) → distance_at new v ≡ Some m → (distance_at old v ≡ Some m) ⊎ ((m ≡ time) × Contains new_cells v)
  pub stays : (v : ℕ) → Contains old_cells v → Contains new_cells v
  pub listed : (v : ℕ) → Contains new_cells v → Contains old_cells v ⊎ IsFree g v

-- each free neighbour of u to which the agent may go at this time has an entry; u is to go on from again, unless all have one
pub record IsLookedAt (query : Query) (t : ℕ) (table : List (Option ℕ)) (cells : List ℕ) (u : ℕ) : Type 0 where
  pub entered : (v : ℕ) → IsFreeNeighbour query.grid u v → MayGo query t u v → HasEntry table v
  pub waits : Contains cells u ⊎ ((v : ℕ) → IsFreeNeighbour query.grid u v → HasEntry table v)

-- the table up to time n: a cell whose free neighbours lack an entry is in the frontier, from which to go on
pub record IsAdvanced (query : Query) (n : ℕ) (table : List (Option ℕ)) (frontier : List ℕ) : Type 0 where
  pub each : length table ≡ length query.grid.free
  pub at_most : (v m : ℕ) → distance_at table v ≡ Some m → m ≤ n
  pub at_start : (v : ℕ) → distance_at table v ≡ Some 0 → v ≡ query.start
  pub bounds : (t v : ℕ) → t ≤ n → CanBe query t v → (m : ℕ) × (distance_at table v ≡ Some m) × (m ≤ t)
  pub closed : (u : ℕ) → HasEntry table u → Contains frontier u ⊎ ((v : ℕ) → IsFreeNeighbour query.grid u v → HasEntry table v)
  pub free : (v : ℕ) → Contains frontier v → IsFree query.grid v
