-- A search backwards from the goal: where an agent may be at a time step, and what isn't ruled out yet. What its query's
-- table has is told in Earliest.
use Rattle.std.specs.Prelude.{◌≡◌, ◌⊎◌, ℕ, zero, suc, ◌+◌, ◌<◌, ◌≤◌, List, Option, MatchOption, Contains}
use Rattle.mapf_low.specs.declared.constraint.Constraint.TheVariants.{Vertex, Edge}
use Rattle.mapf_low.specs.Query.{Query}
use Rattle.mapf_low.specs.Reached.{ComesFrom, EndsAt, IsReconstructed}
use Rattle.mapf_low.specs.Walk.{distance_at}

-- cells at time steps that are known to be out of reach, and how many more may join them
pub record DeadEnds : Type 0 where
  pub states : List (ℕ × ℕ)
  pub room : ℕ

-- each new state is an old one or this one; an older state may be forgotten, which costs a second look at it and nothing else
abbrev pub IsJoined : ℕ × ℕ → List (ℕ × ℕ) → List (ℕ × ℕ) → Type 0
IsJoined state old new = (s : ℕ × ℕ) → Contains new s → Contains old s ⊎ (state ≡ s)

-- some list of steps from the start leads to v at time t, and breaks no constraint up to then
abbrev pub CanBe : Query → ℕ → ℕ → Type 0
CanBe query zero v = (v ≡ query.start) × (¬ Contains query.constraints (Vertex v 0))
CanBe query (suc t) v = (¬ Contains query.constraints (Vertex v (suc t))) × ((u : ℕ) × ComesFrom query (suc t) (CanBe query t) v u)

-- no list of steps leads to one of these states
abbrev pub AreDead : Query → List (ℕ × ℕ) → Type 0
AreDead query dead = (v t : ℕ) → Contains dead (v, t) → ¬ CanBe query t v

-- it is not too early for the cell, the cell is not forbidden, and the state is no dead end
abbrev pub IsLeft : Query → List (ℕ × ℕ) → ℕ → ℕ → Type 0
IsLeft query dead t v =
    MatchOption (distance_at query.table v) ⊥ (λ n. n ≤ t)
    × (¬ Contains query.constraints (Vertex v t)) × (¬ Contains dead (v, t))

-- nothing rules out u at time t, or forbids to arrive from there on v
abbrev pub MayLead : Query → List (ℕ × ℕ) → ℕ → ℕ → ℕ → Type 0
MayLead query dead t u v = IsLeft query dead t u × (¬ Contains query.constraints (Edge u v (t + 1)))

-- the least list of steps to the goal that ends at this time, read from its end; with none no list of steps does
abbrev pub IsTraced : Query → ℕ → Option (List ℕ) → Type 0
IsTraced query end found =
    MatchOption found
    (¬ CanBe query end query.goal)
    (λ p. IsReconstructed query (CanBe query) p 0 end × CanBe query end query.goal)

-- no list of steps of a lower cost can end on the goal, up to the bound
abbrev pub HasNoneBefore : Query → ℕ → Type 0
HasNoneBefore query end = (t : ℕ) → t < end → t ≤ query.bound → ¬ EndsAt query (CanBe query) t
