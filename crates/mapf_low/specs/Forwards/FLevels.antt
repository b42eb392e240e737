-- F-levels of one sum: the cells that an agent may reach with so many time steps behind it and the rest of the sum to its goal.
use Rattle.std.specs.Prelude.{◌≡◌, ℕ, ◌+◌, ◌-◌, ◌<◌, ◌≤◌, ◌⊎◌, ◌↔◌, List, [], ◌∷◌, ◌++◌, length, slice_index_or, Option, Some, MatchOption, Contains}
use Rattle.mapf_grid.specs.Grid.{IsFree, Next, cells}
use Rattle.mapf_low.specs.declared.constraint.Constraint.TheVariants.{Vertex, Edge}
use Rattle.mapf_low.specs.Query.{Query}
use Rattle.mapf_low.specs.Reached.{AreReached, EndsAt}
use Rattle.mapf_low.specs.Walk.{distance_at}
use Rattle.std.specs.Option.{unwrap_or}

-- the new list is the old one, with the item behind it if it wasn't there
abbrev pub IsAdded : {X : Type 0} → X → List X → List X → Type 0
IsAdded item old new = (Contains old item × (new ≡ old)) ⊎ (new ≡ old ++ item ∷ [])

-- the new list begins with the old one, and has just those other cells of which E holds
pub record Grows (E : ℕ → Type 0) (old new : List ℕ) : Type 0 where
  pub more : List ℕ
  pub is : new ≡ old ++ more
  pub members : (v : ℕ) → Contains new v ↔ (Contains old v ⊎ E v)

-- the goal is at most so far
abbrev pub IsWithin : Query → ℕ → ℕ → Type 0
IsWithin query most v = MatchOption (distance_at query.table v) ⊥ (λ n. n ≤ most)

-- nothing forbids to arrive on v from u at this time
abbrev pub IsAllowedStep : Query → ℕ → ℕ → ℕ → Type 0
IsAllowedStep query t u v = (¬ Contains query.constraints (Vertex v t)) × (¬ Contains query.constraints (Edge u v t))

-- v is at this distance, and nothing forbids to arrive on it from u at this time
abbrev pub Admits : Query → ℕ → ℕ → ℕ → ℕ → Type 0
Admits query t far u v = (distance_at query.table v ≡ Some far) × IsAllowedStep query t u v

-- the same, and there is a step from u to v
abbrev pub Enters : Query → ℕ → ℕ → ℕ → ℕ → Type 0
Enters query t far u v = Next query.grid u v × Admits query t far u v

-- from u in the f-level of this sum the agent may step to v, in the f-level whose sum is higher by `more`
pub record Leads (query : Query) (sum more u v : ℕ) : Type 0 where
  pub near : ℕ
  pub far : ℕ
  pub near_is : distance_at query.table u ≡ Some near
  pub apart : far + 1 ≡ near + more
  pub enters : Enters query (sum - near + 1) far u v

-- one of these cells leads to v
abbrev pub SomeLeads : Query → ℕ → ℕ → List ℕ → ℕ → Type 0
SomeLeads query sum more level v = (u : ℕ) × Contains level u × Leads query sum more u v

-- the new f-level has the old one's cells and all that its own lead to with the same sum
pub record Closes (query : Query) (sum : ℕ) (old new : List ℕ) : Type 0 where
  pub keeps : (v : ℕ) → Contains old v → Contains new v
  pub sound : (v : ℕ) → Contains new v → Contains old v ⊎ SomeLeads query sum 0 new v
  pub closed : (v : ℕ) → SomeLeads query sum 0 new v → Contains new v

-- each cell is a free one of the map, and no farther from the goal than the sum
abbrev pub ArePlaced : Query → ℕ → List ℕ → Type 0
ArePlaced query sum level = (v : ℕ) → Contains level v → IsFree query.grid v × (v < cells query.grid) × IsWithin query sum v

abbrev pub level_at : List (List ℕ) → ℕ → List ℕ
level_at levels k = slice_index_or levels k []

-- the agent may be on v at time t: the f-level of their sum has the cell
abbrev pub InFLevels : Query → ℕ → List (List ℕ) → ℕ → ℕ → Type 0
InFLevels query nearest levels t v =
    MatchOption (distance_at query.table v) ⊥ (λ n. (nearest ≤ t + n) × Contains (level_at levels (t + n - nearest)) v)

-- a search by f-levels from the start: with `end` the agent can end, and with no lower sum; with none there is no sum up to the bound
pub record IsSearched (query : Query) (nearest : ℕ) (levels : List (List ℕ)) (end : Option ℕ) : Type 0 where
  pub within : unwrap_or end query.bound ≤ query.bound
  pub reached : (count : ℕ) → AreReached query (unwrap_or end query.bound) (InFLevels query nearest levels) count
  pub before : (t : ℕ) → t < unwrap_or end query.bound → ¬ EndsAt query (InFLevels query nearest levels) t
  pub ends : MatchOption end (¬ EndsAt query (InFLevels query nearest levels) query.bound) (EndsAt query (InFLevels query nearest levels))
  pub few : nearest + length levels ≤ unwrap_or end query.bound + 1
  pub placed : (k v : ℕ) → Contains (level_at levels k) v → IsWithin query (nearest + k) v
