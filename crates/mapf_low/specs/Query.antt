-- What the low-level search is asked (Sharon et al. 2015: the low level finds a path for one agent under its constraints).
use Rattle.std.specs.Prelude.{ℕ, ◌+◌, ◌≤◌, List, Bool, Option, MatchOption, All, Contains}
use Rattle.mapf_grid.specs.Grid.{Grid, IsFree, HasSizes}
use Rattle.mapf_low.specs.declared.constraint.Constraint.{Constraint}
use Rattle.mapf_low.specs.declared.constraint.Constraint.TheVariants.{Vertex}
use Rattle.mapf_low.specs.Best.{IsGreatest}
use Rattle.mapf_low.specs.Constraints.{IsAllowed}
use Rattle.mapf_low.specs.OwnPath.{IsOwnPath}
use Rattle.mapf_low.specs.Kept.{HasTwoEnds}
use Rattle.mapf_low.specs.Times.{AreMarked}
use Rattle.mapf_low.specs.Walk.{AreDistances}
use Rattle.mapf_plan.specs.declared.answer.TheConstants.{MOST_BOUND}

-- one agent's own path on a map from its start to its goal, under constraints, at a cost of at most the bound
pub record Query : Type 0 where
  pub grid : Grid
  pub table : List (Option ℕ)
  pub constraints : List Constraint
  pub start : ℕ
  pub goal : ℕ
  pub bound : ℕ

abbrev pub query_of : Grid → List (Option ℕ) → List Constraint → (start goal bound : ℕ) → Query
query_of grid table constraints start goal bound =
    record { grid = grid; table = table; constraints = constraints; start = start; goal = goal; bound = bound }

-- start and goal are free, each edge constraint has two ends, and the bound is not too large
pub record IsPosed (query : Query) : Type 0 where
  pub sizes : HasSizes query.grid
  pub start : IsFree query.grid query.start
  pub goal : IsFree query.grid query.goal
  pub ends : All HasTwoEnds query.constraints
  pub bound : query.bound ≤ MOST_BOUND

-- from this time on nothing forbids the goal
abbrev pub MayEnd : Query → ℕ → Type 0
MayEnd query t = (s : ℕ) → t ≤ s → ¬ Contains query.constraints (Vertex query.goal s)

-- it is posed, and it is known when the goal is last forbidden, and which times have constraints
pub record IsPrepared (query : Query) (last : Option ℕ) (marks : List Bool) : Type 0 where
  pub posed : IsPosed query
  pub last_is : IsGreatest (λ t. Contains query.constraints (Vertex query.goal t)) last
  pub marked : AreMarked query.constraints (query.bound + 1) marks

-- the table has the distances to the goal
abbrev pub HasDistances : Query → Type 0
HasDistances query = AreDistances query.grid query.goal query.table

-- the agent's own path; none exactly where there is no path that it may take
abbrev pub IsFound : Query → Option (List ℕ) → Type 0
IsFound query found =
    MatchOption found
    ((p : List ℕ) → ¬ IsAllowed query.grid query.start query.goal query.bound query.constraints p)
    (IsOwnPath query.grid query.start query.goal query.bound query.constraints)
