-- Layers over time: the cells where an agent may be at each time step, as lists.
use Rattle.std.specs.Prelude.{◌≡◌, ℕ, ◌↔◌, List, [], slice_index_or, Contains}
use Rattle.mapf_low.specs.declared.constraint.Constraint.TheVariants.{Edge}
use Rattle.mapf_low.specs.Query.{Query}
use Rattle.mapf_low.specs.Reached.{IsUsable, ComesFrom}

-- the agent may arrive on v from u, if that is a step
abbrev pub MayEnter : Query → ℕ → ℕ → ℕ → Type 0
MayEnter query t u v = IsUsable query query.bound t v × (¬ Contains query.constraints (Edge u v t))

-- at time 0: the start, if it is open
abbrev pub IsFirstLayer : Query → List ℕ → Type 0
IsFirstLayer query layer =
    (v : ℕ) → Contains layer v ↔ ((v ≡ query.start) × IsUsable query query.bound 0 v)

-- at time t: the open cells that may be entered from a cell of the layer before
abbrev pub IsNextLayer : Query → ℕ → List ℕ → List ℕ → Type 0
IsNextLayer query t layer next =
    (v : ℕ) → Contains next v ↔ (IsUsable query query.bound t v × ((u : ℕ) × ComesFrom query t (Contains layer) v u))

abbrev pub layer_at : List (List ℕ) → ℕ → List ℕ
layer_at layers t = slice_index_or layers t []

-- the layer of this time has the cell
abbrev pub InLayers : List (List ℕ) → ℕ → ℕ → Type 0
InLayers layers t v = Contains (layer_at layers t) v
