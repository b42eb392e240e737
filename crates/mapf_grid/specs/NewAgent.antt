-- One row more of an instance: the next agent's places, or why the row gives none.
use Rattle.std.specs.Prelude.{◌≡◌, ◌≢◌, ℕ, ◌<◌, List, Option, MatchOption, length, slice_index}
use Rattle.mapf_grid.specs.Grid.{Grid}
use Rattle.mapf_grid.specs.Instance.{IsSizeOf, IsFreePlace, cell_at}
use Rattle.mapf_grid.specs.declared.scenario.Row.{Row}
use Rattle.mapf_grid.specs.declared.fault.InstanceFault.{InstanceFault}
use Rattle.mapf_grid.specs.declared.fault.InstanceFault.TheVariants.{AgentCount, TooFewRows, WrongSize, StartNotFree, GoalNotFree, SharedStart, SharedGoal, NoMemory}

-- the place is in the map, free, and no earlier agent's
pub record IsNewPlace (g : Grid) (earlier : List ℕ) (x y cell : ℕ) : Type 0 where
  pub free : IsFreePlace g x y
  pub is : cell ≡ cell_at g x y
  pub new : (i : ℕ) → i < length earlier → slice_index earlier i ≢ cell

-- the row is for this map, and these are its start and goal
pub record IsNewAgent (g : Grid) (starts goals : List ℕ) (row : Row) (start goal : ℕ) : Type 0 where
  pub size : IsSizeOf g row
  pub start_place : IsNewPlace g starts row.start_x row.start_y start
  pub goal_place : IsNewPlace g goals row.goal_x row.goal_y goal

-- agent i is the first at this cell
pub record IsFirstAt (places : List ℕ) (cell i : ℕ) : Type 0 where
  pub there : i < length places
  pub at : slice_index places i ≡ cell
  pub none_before : (j : ℕ) → j < i → slice_index places j ≢ cell

-- f has each place's first agent, and no agent for another cell
abbrev pub IsIndex : List ℕ → (ℕ → Option ℕ) → Type 0
IsIndex places f =
    (cell : ℕ) → MatchOption (f cell) ((i : ℕ) → i < length places → slice_index places i ≢ cell) (IsFirstAt places cell)

-- what is wrong with row r, where all that is tested before is right
abbrev pub HasAgentFault : Grid → List ℕ → List ℕ → Row → ℕ → InstanceFault → Type 0
HasAgentFault g starts goals row r AgentCount = ⊥
HasAgentFault g starts goals row r (TooFewRows there) = ⊥
HasAgentFault g starts goals row r (WrongSize q) = (q ≡ r) × (¬ IsSizeOf g row)
HasAgentFault g starts goals row r (StartNotFree q) =
    (q ≡ r) × IsSizeOf g row × (¬ IsFreePlace g row.start_x row.start_y)
HasAgentFault g starts goals row r (GoalNotFree q) =
    (q ≡ r) × IsSizeOf g row × IsFreePlace g row.start_x row.start_y × (¬ IsFreePlace g row.goal_x row.goal_y)
HasAgentFault g starts goals row r (SharedStart earlier q) =
    (q ≡ r) × IsSizeOf g row × IsFreePlace g row.start_x row.start_y × IsFreePlace g row.goal_x row.goal_y
    × IsFirstAt starts (cell_at g row.start_x row.start_y) earlier
HasAgentFault g starts goals row r (SharedGoal earlier q) =
    (q ≡ r) × IsSizeOf g row × IsNewPlace g starts row.start_x row.start_y (cell_at g row.start_x row.start_y)
    × IsFreePlace g row.goal_x row.goal_y × IsFirstAt goals (cell_at g row.goal_x row.goal_y) earlier
HasAgentFault g starts goals row r NoMemory = ⊥
