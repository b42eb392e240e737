-- What is worked ahead: a job names what it is for, and an answer fits it or not. Nothing here speaks of threads.
use Rattle.std.specs.Prelude.{◌≡◌, ℕ, ◌+◌, ◌-◌, ◌^◌, List, [], length, map, min, slice_index, Option}
use Rattle.std.specs.List.{range_with_len}
use Rattle.mapf_grid.specs.Grid.{Grid}
use Rattle.mapf_grid.specs.Instance.{Instance}
use Rattle.mapf_low.specs.Walk.{AreDistances}
use Rattle.mapf_tree.specs.Problem.{Problem}
use Rattle.mapf_tree.specs.Nodes.{Node}
use Rattle.mapf_tree.specs.Family.{IsOwn, IsChildOf}
use Rattle.mapf_tree.specs.SideQuery.{SideQuery}

-- the distances to a goal are wanted
pub record WantedTable : Type 0 where
  pub grid : Grid
  pub goal : ℕ
  pub number : ℕ

-- an agent's own path without constraints is wanted
pub record WantedPath : Type 0 where
  pub problem : Problem
  pub agent : ℕ
  pub number : ℕ

-- a child of a node is wanted, on one side of its conflict
pub record WantedChild : Type 0 where
  pub query : SideQuery
  pub node : Node
  pub number : ℕ

-- the path is the agent's own path without constraints, or there is none
abbrev pub FitsPath : WantedPath → Option (List ℕ) → Type 0
FitsPath j found = IsOwn j.problem j.agent [] found

-- the table has the goal's distances
abbrev pub FitsGoal : WantedTable → List (Option ℕ) → Type 0
FitsGoal j table = AreDistances j.grid j.goal table

-- agent i's own path is wanted, by a job whose number is i more than the first; a number that has reached the greatest stays there
abbrev pub wanted_path : Problem → ℕ → ℕ → WantedPath
wanted_path p first i = record { problem = p; agent = i; number = min (first + i) (2 ^ 64 - 1) }

-- agent i's goal's distances are wanted, by the job i
abbrev pub wanted_table : Instance → ℕ → WantedTable
wanted_table inst i = record { grid = inst.grid; goal = slice_index inst.goals i; number = i }

-- a job for each agent's own path, agent 0 first
abbrev pub AreOfAgents : Problem → ℕ → List WantedPath → Type 0
AreOfAgents p first jobs = jobs ≡ map (wanted_path p first) (range_with_len 0 (length p.inst.starts))

-- a job for each agent's goal, agent 0 first
abbrev pub AreOfGoals : Instance → List WantedTable → Type 0
AreOfGoals inst jobs = jobs ≡ map (wanted_table inst) (range_with_len 0 (length inst.starts))

-- the child is the one that was asked for
abbrev pub FitsSide : WantedChild → Option Node → Type 0
FitsSide j found = IsChildOf j.query.problem j.node j.query.side found
