-- What is to be solved: a grid, and each agent's start and goal (Stern et al. 2019).
-- Agent i is row i of the scenario; starts are distinct, and so are goals.
use Rattle.std.specs.Prelude.{◌≡◌, ◌≢◌, ℕ, ◌+◌, ◌*◌, ◌<◌, ◌≤◌, ◌⊎◌, List, [], ◌∷◌, length, slice_get, slice_index, Some}
use Rattle.mapf_grid.specs.Grid.{Grid, IsFree}
use Rattle.mapf_grid.specs.Least.{IsLeast}
use Rattle.mapf_grid.specs.declared.scenario.Row.{Row}
use Rattle.mapf_grid.specs.declared.fault.InstanceFault.{InstanceFault}
use Rattle.mapf_grid.specs.declared.fault.InstanceFault.TheVariants.{AgentCount, TooFewRows, WrongSize, StartNotFree, GoalNotFree, SharedStart, SharedGoal, NoMemory}
use Rattle.mapf_grid.specs.declared.instance.TheConstants.{MOST_AGENTS}

-- a grid, and each agent's start and goal, agent 0 first
pub record Instance : Type 0 where
  pub grid : Grid
  pub starts : List ℕ
  pub goals : List ℕ

-- the cell in column x of row y
abbrev pub cell_at : Grid → ℕ → ℕ → ℕ
cell_at g x y = y * g.width + x

-- the place is in the map, and free
abbrev pub IsFreePlace : Grid → ℕ → ℕ → Type 0
IsFreePlace g x y = (x < g.width) × (y < g.height) × IsFree g (cell_at g x y)

abbrev pub IsSizeOf : Grid → Row → Type 0
IsSizeOf g row = (row.width ≡ g.width) × (row.height ≡ g.height)

abbrev pub IsDistinct : List ℕ → Type 0
IsDistinct xs = (i j : ℕ) → i < j → j < length xs → slice_index xs i ≢ slice_index xs j

-- row i is for a map of this size, its start and goal are free, and they are those of agent i
pub record IsAgent (inst : Instance) (i : ℕ) (row : Row) : Type 0 where
  pub size : IsSizeOf inst.grid row
  pub start_free : IsFreePlace inst.grid row.start_x row.start_y
  pub goal_free : IsFreePlace inst.grid row.goal_x row.goal_y
  pub start : slice_get inst.starts i ≡ Some (cell_at inst.grid row.start_x row.start_y)
  pub goal : slice_get inst.goals i ≡ Some (cell_at inst.grid row.goal_x row.goal_y)

-- the instance of the first n rows
pub record IsInstance (g : Grid) (rows : List Row) (n : ℕ) (inst : Instance) : Type 0 where
  pub grid : inst.grid ≡ g
  pub some : 0 < n
  pub few : n ≤ MOST_AGENTS
  pub there : n ≤ length rows
  pub starts : length inst.starts ≡ n
  pub goals : length inst.goals ≡ n
  pub agents : (i : ℕ) (row : Row) → i < n → slice_get rows i ≡ Some row → IsAgent inst i row
  pub starts_differ : IsDistinct inst.starts
  pub goals_differ : IsDistinct inst.goals

-- P holds of row r, which is one of the first n
abbrev pub OfRow : List Row → ℕ → ℕ → (Row → Type 0) → Type 0
OfRow rows n r P = (row : Row) × (r < n) × (slice_get rows r ≡ Some row) × P row

-- when the first n rows have a fault; they may have several
abbrev pub HasInstanceFault : Grid → List Row → ℕ → InstanceFault → Type 0
HasInstanceFault g rows n AgentCount = (n ≡ 0) ⊎ (MOST_AGENTS < n)
HasInstanceFault g rows n (TooFewRows there) = (there ≡ length rows) × (there < n)
HasInstanceFault g rows n (WrongSize r) = OfRow rows n r (λ row. ¬ IsSizeOf g row)
HasInstanceFault g rows n (StartNotFree r) = OfRow rows n r (λ row. ¬ IsFreePlace g row.start_x row.start_y)
HasInstanceFault g rows n (GoalNotFree r) = OfRow rows n r (λ row. ¬ IsFreePlace g row.goal_x row.goal_y)
HasInstanceFault g rows n (SharedStart earlier r) =
    (earlier < r) × OfRow rows n r (λ row. OfRow rows n earlier (λ other.
    (other.start_x ≡ row.start_x) × (other.start_y ≡ row.start_y)))
HasInstanceFault g rows n (SharedGoal earlier r) =
    (earlier < r) × OfRow rows n r (λ row. OfRow rows n earlier (λ other.
    (other.goal_x ≡ row.goal_x) × (other.goal_y ≡ row.goal_y)))
HasInstanceFault g rows n NoMemory = ⊥

-- the number of agents, the number of rows, then row by row; in each row in the order of the faults' numbers,
-- and a place is shared with the first row that has it
abbrev pub instance_fault_rank : InstanceFault → List ℕ
instance_fault_rank AgentCount = 0 ∷ []
instance_fault_rank (TooFewRows there) = 1 ∷ []
instance_fault_rank (WrongSize r) = 2 ∷ r ∷ 23 ∷ []
instance_fault_rank (StartNotFree r) = 2 ∷ r ∷ 24 ∷ []
instance_fault_rank (GoalNotFree r) = 2 ∷ r ∷ 25 ∷ []
instance_fault_rank (SharedStart earlier r) = 2 ∷ r ∷ 26 ∷ earlier ∷ []
instance_fault_rank (SharedGoal earlier r) = 2 ∷ r ∷ 27 ∷ earlier ∷ []
instance_fault_rank NoMemory = []

abbrev pub IsInstanceFault : Grid → List Row → ℕ → InstanceFault → Type 0
IsInstanceFault g rows n fault = IsLeast instance_fault_rank (HasInstanceFault g rows n) fault
