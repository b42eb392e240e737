-- What is answered to two files and an ask: one text, or one named fault. Nothing here speaks of workers but their number's limits.
use Rattle.std.specs.Prelude.{◌≡◌, ◌≢◌, ℕ, ◌<◌, ◌≤◌, ◌⊎◌, List, None, Result, Ok, Err}
use Rattle.mapf_grid.specs.Instance.{Instance}
use Rattle.mapf_grid.specs.Asked.{IsAsked, IsFilesFault}
use Rattle.mapf_grid.specs.declared.files.FilesFault.{FilesFault}
use Rattle.mapf_grid.specs.declared.files.FilesFault.TheVariants as files
use Rattle.mapf_plan.specs.Plan.{plan_cost, IsValid, IsOptimum}
use Rattle.mapf_plan.specs.declared.answer.TheConstants.{MOST_BOUND}
use Rattle.mapf_plan.specs.Text.{text}
use Rattle.mapf_plan.specs.declared.answer.Answer.{Answer}
use Rattle.mapf_plan.specs.declared.answer.Answer.TheVariants as answer
use Rattle.mapf_tree.specs.Problem.{Problem, IsLimit}
use Rattle.mapf_tree.specs.Tree.{PlannedNode}
use Rattle.mapf_tree.specs.Cut.{IsCutAt}
use Rattle.mapf_tree.specs.Answered.{IsAnswerOf}
use Rattle.mapf_solve.specs.declared.ask.Ask.{Ask}
use Rattle.mapf_solve.specs.declared.refusal.Refusal.{Refusal}
use Rattle.mapf_solve.specs.declared.refusal.Refusal.TheVariants as refusal
use Rattle.mapf_board.specs.declared.limits.TheConstants.{MOST_WORKERS}

abbrev pub IsBound : Ask → Type 0
IsBound ask = ask.bound ≤ MOST_BOUND

abbrev pub IsWorkers : Ask → Type 0
IsWorkers ask = (0 < ask.workers) × (ask.workers ≤ MOST_WORKERS)

-- a limit on nodes is 1 to 1,000,000
abbrev pub IsNodes : Ask → Type 0
IsNodes ask = IsLimit ask.nodes

-- each of the ask's own numbers may be; how many agents there are is the instance's to judge
abbrev pub AreNumbers : Ask → Type 0
AreNumbers ask = IsBound ask × IsWorkers ask × IsNodes ask

-- a fault of the two files as a refusal
abbrev pub of_files : FilesFault → Refusal
of_files (files.Map fault) = refusal.Map fault
of_files (files.Scenario fault) = refusal.Scenario fault
of_files (files.Instance fault) = refusal.Instance fault
of_files files.NoMemory = refusal.NoMemory

-- the bound comes first, then the workers, then the limit on nodes, then the files
abbrev pub IsRefusal : List ℕ → List ℕ → Ask → Refusal → Type 0
IsRefusal map scen ask refusal.Bound = ¬ IsBound ask
IsRefusal map scen ask refusal.Workers = IsBound ask × ¬ IsWorkers ask
IsRefusal map scen ask refusal.Nodes = IsBound ask × IsWorkers ask × ¬ IsNodes ask
IsRefusal map scen ask named =
    IsBound ask × IsWorkers ask × IsNodes ask × (fault : FilesFault) × (named ≡ of_files fault) × IsFilesFault map scen ask.agents fault

-- what is to be solved: the instance, under the ask's bound, its limit on nodes, if it has one, and its rule
abbrev pub problem_of : Instance → Ask → Problem
problem_of inst ask = record { inst = inst; bound = ask.bound; nodes = ask.nodes; rule = ask.rule }

-- the problem of these files and this ask
pub record IsProblemOf (map scen : List ℕ) (ask : Ask) (problem : Problem) : Type 0 where
  pub bound : IsBound ask
  pub workers : IsWorkers ask
  pub nodes : IsNodes ask
  pub asked : IsAsked map scen ask.agents problem.inst
  pub is : problem ≡ problem_of problem.inst ask

-- the text of an answer to what is asked, by what is said to answer a problem
pub record IsTextBy (Answers : Problem → Answer → Type 0) (map scen : List ℕ) (ask : Ask) (bytes : List ℕ) : Type 0 where
  pub bound : IsBound ask
  pub workers : IsWorkers ask
  pub nodes : IsNodes ask
  pub inst : Instance
  pub asked : IsAsked map scen ask.agents inst
  pub given : Answer
  pub answer : Answers (problem_of inst ask) given
  pub spelled : bytes ≡ text inst.grid given

-- the text of the answer of conflict-based search: the plan of the constraint tree's first solution, or that it gave up at the
-- limit on nodes
abbrev pub IsText : (map scen : List ℕ) → Ask → (bytes : List ℕ) → Type 0
IsText map scen ask bytes = IsTextBy IsAnswerOf map scen ask bytes

-- the text, or the named fault, unless memory ran out
abbrev pub IsOut : List ℕ → List ℕ → Ask → Result (List ℕ) Refusal → Type 0
IsOut map scen ask (Ok bytes) = IsText map scen ask bytes
IsOut map scen ask (Err fault) = IsRefusal map scen ask fault

-- a plan that has no conflict by the ask's rule and costs least of all such plans, or `none` exactly if no plan without conflict
-- costs at most the bound
pub record IsBest (map scen : List ℕ) (ask : Ask) (bytes : List ℕ) : Type 0 where
  pub inst : Instance
  pub asked : IsAsked map scen ask.agents inst
  pub best :
      ((plan : List (List ℕ)) × IsOptimum ask.rule inst ask.bound plan × (bytes ≡ text inst.grid (answer.Plan plan (plan_cost plan))))
      ⊎ (((plan : List (List ℕ)) → IsValid ask.rule inst plan → plan_cost plan ≤ ask.bound → ⊥) × (bytes ≡ text inst.grid (answer.None ask.bound)))

-- the same ask without a limit on nodes
abbrev pub without_limit : Ask → Ask
without_limit ask = record ask { nodes = None }

-- with a limit of n nodes the bytes are the same, unless the tree has a node at place n that is in the cut or is the first
-- solution: exactly then they are `gave up` with the limit and a cost that each plan without conflict has at least
pub record KeepsLimit (map scen : List ℕ) (ask : Ask) (n : ℕ) (bytes : List ℕ) : Type 0 where
  pub inst : Instance
  pub asked : IsAsked map scen ask.agents inst
  pub cut : (m : PlannedNode) → IsCutAt (problem_of inst ask) n m → bytes ≡ text inst.grid (answer.GaveUp n (plan_cost m.1))
  pub same :
      ((m : PlannedNode) → ¬ IsCutAt (problem_of inst ask) n m) →
      IsOut map scen (without_limit ask) (Ok bytes) × ((least : ℕ) → bytes ≢ text inst.grid (answer.GaveUp n least))
  pub best :
      ((least : ℕ) × (bytes ≡ text inst.grid (answer.GaveUp n least)) × ((plan : List (List ℕ)) → IsValid ask.rule inst plan → least ≤ plan_cost plan))
      ⊎ IsBest map scen ask bytes

-- with any number of workers from 1 to 64 this is the one answer
abbrev pub IsOnlyOut : List ℕ → List ℕ → Ask → Result (List ℕ) Refusal → Type 0
IsOnlyOut map scen ask given =
    (n : ℕ) → IsWorkers (record ask { workers = n }) → (other : Result (List ℕ) Refusal) →
    IsOut map scen (record ask { workers = n }) other → other ≡ given

-- two files and an ask have one text or one fault, whatever the numbers of workers are
abbrev pub OneOut : Type 0
OneOut =
    (map scen : List ℕ) (ask : Ask) (given : Result (List ℕ) Refusal) → IsWorkers ask → IsOut map scen ask given → IsOnlyOut map scen ask given
