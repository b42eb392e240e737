-- Where some agents can be at once, time step by time step, on paths that cost no more than a total (Standley 2010: plans of a few agents
-- by their joint states; here each is known by what its paths cost at least).
use Rattle.std.specs.Prelude.{◌≡◌, ℕ, ◌-◌, ◌<◌, ◌≤◌, true, false, List, length, slice_get, slice_index_or, Option, Some, Contains}
use Rattle.mapf_grid.specs.Grid.{Grid, IsFree, HasSizes}
use Rattle.mapf_plan.specs.Collisions.{DoCollide}
use Rattle.mapf_plan.specs.Path.{at, cost, IsPath}
use Rattle.mapf_plan.specs.Plan.{path_of, plan_cost}
use Rattle.mapf_plan.specs.declared.rule.Rule.{Rule}
use Rattle.mapf_low.specs.declared.constraint.Constraint.{Constraint}
use Rattle.mapf_low.specs.Constraints.{Obeys}
use Rattle.mapf_low.specs.Walk.{AreDistances}
use Rattle.mapf_optimum.specs.declared.together.place.Place.{Place}
use Rattle.mapf_optimum.specs.declared.together.Within.{Within}
use Rattle.mapf_optimum.specs.declared.together.Within.TheVariants as within

-- an agent's start and goal, what it is forbidden, and what its path costs at least
pub record Agent : Type 0 where
  pub grid : Grid
  pub start : ℕ
  pub goal : ℕ
  pub constraints : List Constraint
  pub least : ℕ

abbrev pub agent_of : Grid → List Constraint → (start goal least : ℕ) → Agent
agent_of grid constraints start goal least = record { grid = grid; start = start; goal = goal; constraints = constraints; least = least }

-- the table has the distances to the agent's goal on its map
pub record IsPosed (agent : Agent) (table : List (Option ℕ)) : Type 0 where
  pub sizes : HasSizes agent.grid
  pub goal : IsFree agent.grid agent.goal
  pub distances : AreDistances agent.grid agent.goal table

-- a path of the agent that obeys its constraints, and costs no less
pub record IsPathOf (agent : Agent) (p : List ℕ) : Type 0 where
  pub path : IsPath agent.grid agent.start agent.goal p
  pub least : agent.least ≤ cost p
  pub obeys : Obeys agent.constraints p

-- two agents on these paths never collide
abbrev pub NeverCollide : Rule → List ℕ → List ℕ → Type 0
NeverCollide rule p q = (t : ℕ) → ¬ DoCollide rule p q t

-- on its path the agent goes from one cell to another by this time step, and hasn't arrived before
pub record Steps (agent : Agent) (p : List ℕ) (time from to : ℕ) : Type 0 where
  pub path : IsPathOf agent p
  pub later : 0 < time
  pub underway : time ≤ cost p
  pub from_there : at p (time - 1) ≡ from
  pub to_there : at p time ≡ to

-- one on this path is at the place at this time step
pub record StandsAt (p : List ℕ) (time : ℕ) (place : Place) : Type 0 where
  pub on : place.cell ≡ at p time
  pub pays : place.cost ≤ cost p
  pub home : place.is_home ≡ true → cost p ≤ time
  pub away : place.is_home ≡ false → time < cost p

-- one of the places is that
abbrev pub HasPlace : List ℕ → ℕ → List Place → Type 0
HasPlace p time places = (x : Place) × Contains places x × StandsAt p time x

-- a place of no agent
unfoldable pub no_place : Place
no_place = record { cell = 0; cost = 0; is_home = false }

-- where each of some agents is
abbrev pub place_in : List Place → ℕ → Place
place_in joint i = slice_index_or joint i no_place

-- of so many agents on the plan's paths, the first ones, each is where the joint place says, at this time step
abbrev pub AreAt : List (List ℕ) → (count time : ℕ) → List Place → Type 0
AreAt plan count time joint = (i : ℕ) → i < count → StandsAt (path_of plan i) time (place_in joint i)

-- paths of so many agents that never collide, and cost no more than the total together
pub record ArePlan (rule : Rule) (count total : ℕ) (plan : List (List ℕ)) : Type 0 where
  pub agents : length plan ≡ count
  pub apart : (i j : ℕ) → i < j → j < count → NeverCollide rule (path_of plan i) (path_of plan j)
  pub within : plan_cost plan ≤ total

-- these are paths of these agents
abbrev pub ArePathsOf : List Agent → List (List ℕ) → Type 0
ArePathsOf agents plan = (i : ℕ) (agent : Agent) → slice_get agents i ≡ Some agent → IsPathOf agent (path_of plan i)

-- such plans of these agents
abbrev pub IsPlanOf : Rule → List Agent → ℕ → List (List ℕ) → Type 0
IsPlanOf rule agents total plan = ArePlan rule (length agents) total plan × ArePathsOf agents plan

-- where it is said that there is none, these agents have no such plan
abbrev pub HasNoPlan : Rule → List Agent → ℕ → Within → Type 0
HasNoPlan rule agents total within.Nothing = (plan : List (List ℕ)) → ¬ IsPlanOf rule agents total plan
HasNoPlan rule agents total (within.Plan paths) = Unit {0}
HasNoPlan rule agents total within.Unknown = Unit {0}
