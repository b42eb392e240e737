-- Where an agent may be at each time step, as far as it can still reach its goal by a bound; and a path that is read
-- backwards through that.
use Rattle.std.specs.Prelude.{◌≡◌, ℕ, ◌+◌, ◌<◌, ◌≤◌, ◌↔◌, List, length, slice_index, slice_index_or, None, MatchOption, Contains}
use Rattle.mapf_grid.specs.Grid.{IsFree, Next}
use Rattle.mapf_low.specs.declared.constraint.Constraint.TheVariants.{Vertex, Edge}
use Rattle.mapf_low.specs.Query.{Query, MayEnd}

-- the agent may be on the cell at this time, and the goal is near enough
abbrev pub IsUsable : Query → ℕ → ℕ → ℕ → Type 0
IsUsable query bound t v =
    (¬ Contains query.constraints (Vertex v t)) × MatchOption (slice_index_or query.table v None) ⊥ (λ n. t + n ≤ bound)

-- the agent may arrive on v from u at this time
abbrev pub MayStep : Query → ℕ → ℕ → ℕ → Type 0
MayStep query t u v = Next query.grid u v × (¬ Contains query.constraints (Edge u v t))

-- u is one of these cells, and v may be entered from it at this time
abbrev pub ComesFrom : Query → ℕ → (ℕ → Type 0) → ℕ → ℕ → Type 0
ComesFrom query t P v u = P u × MayStep query t u v

-- for each of so many time steps the open cells that an agent from the start may have reached
pub record AreReached (query : Query) (bound : ℕ) (At : ℕ → ℕ → Type 0) (count : ℕ) : Type 0 where
  pub first : (v : ℕ) → At 0 v ↔ ((v ≡ query.start) × IsUsable query bound 0 v)
  pub next : (t : ℕ) → t + 1 < count → (v : ℕ) →
      At (t + 1) v ↔ (IsUsable query bound (t + 1) v × ((u : ℕ) × ComesFrom query (t + 1) (At t) v u))

-- a path may end at this time
abbrev pub EndsAt : Query → (ℕ → ℕ → Type 0) → ℕ → Type 0
EndsAt query At t = At t query.goal × MayEnd query t

-- of these cells from which v may be entered at this time, u is the smallest
pub record IsSmallestBefore (query : Query) (t : ℕ) (P : ℕ → Type 0) (v u : ℕ) : Type 0 where
  pub comes : ComesFrom query t P v u
  pub smallest : (w : ℕ) → ComesFrom query t P v w → u ≤ w

-- the cells from time `from` to time `end`, read backwards from the goal
pub record IsReconstructed (query : Query) (At : ℕ → ℕ → Type 0) (path : List ℕ) (from end : ℕ) : Type 0 where
  pub long : length path ≡ end + 1
  pub ends : slice_index path end ≡ query.goal
  pub back : (t : ℕ) → from ≤ t → t < end →
      IsSmallestBefore query (t + 1) (At t) (slice_index path (t + 1)) (slice_index path t)

-- up to this time each cell is free, and each later one may be entered from an earlier one
pub record AreLinked (query : Query) (At : ℕ → ℕ → Type 0) (end : ℕ) : Type 0 where
  pub free : (t v : ℕ) → t ≤ end → At t v → IsFree query.grid v
  pub linked : (t v : ℕ) → t < end → At (t + 1) v → (u : ℕ) × ComesFrom query (t + 1) (At t) v u
