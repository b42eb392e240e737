-- Paths, as lists of cells (Stern et al. 2019: discrete time, wait or move, stay at target).
use Rattle.std.specs.Prelude.{◌≡◌, ◌≢◌, ℕ, ◌+◌, ◌-◌, ◌<◌, ◌≤◌, min, List, length, slice_index, Option, Some, None}
use Rattle.mapf_grid.specs.Grid.{Grid, IsFree, Next}

abbrev pub cost : List ℕ → ℕ
cost p = length p - 1

-- where the agent is at a time: it stays where the path ends
abbrev pub at : List ℕ → ℕ → ℕ
at p t = slice_index p (min t (cost p))

-- from start to goal by steps of the grid; a path ends when it arrives, and so doesn't wait on the goal at its end
pub record IsPath (g : Grid) (start goal : ℕ) (p : List ℕ) : Type 0 where
  pub some : 0 < length p
  pub starts : at p 0 ≡ start
  pub ends : at p (cost p) ≡ goal
  pub free : IsFree g start
  pub steps : (t : ℕ) → t < cost p → Next g (at p t) (at p (t + 1))
  pub arrives : (t : ℕ) → t + 1 ≡ cost p → at p t ≢ goal

-- at a time neither of the agents on two paths is where the other is or was one time step before
pub record AreApart (p q : List ℕ) (t : ℕ) : Type 0 where
  pub same : at p t ≢ at q t
  pub one : at p t ≢ at q (t - 1)
  pub other : at q t ≢ at p (t - 1)

-- of the times from s on and before e the first at which P holds; none where it holds at none of them
abbrev pub IsFirstTime : (ℕ → Type 0) → ℕ → ℕ → Option ℕ → Type 0
IsFirstTime P s e None = (t : ℕ) → s ≤ t → t < e → ¬ P t
IsFirstTime P s e (Some u) = (s ≤ u) × (u < e) × P u × ((t : ℕ) → s ≤ t → t < u → ¬ P t)
