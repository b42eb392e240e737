-- What a session keeps of a problem and of its board, and how a search goes on in it. Nothing here speaks of threads.
use Rattle.std.specs.Prelude.{◌≡◌, ℕ, ◌≤◌, List, [], Option, Some, None, Result, Ok, Err, option_map, slice_index_or}
use Rattle.mapf_grid.specs.declared.fault.NoMemory.{NoMemory}
use Rattle.mapf_board.specs.Views.{Held, job_in}
use Rattle.mapf_board.specs.declared.live.left.Left.TheVariants.{Answer, Job}
use Rattle.mapf_plan.specs.declared.rule.Rule.TheVariants.{Classical}
use Rattle.mapf_tree.specs.declared.search.progress.Progress.{Progress}
use Rattle.mapf_tree.specs.declared.search.progress.Progress.TheVariants.{Working, Finished}
use Rattle.mapf_tree.specs.Problem.{Problem}
use Rattle.mapf_tree.specs.Nodes.{Node}
use Rattle.mapf_tree.specs.Search.{Searched, TakesBetween}
use Rattle.mapf_solve.specs.Rounds.{WantedChild}

-- a problem that no search is of, for a type that names one
abbrev pub no_problem : Problem
no_problem = record { inst = record { grid = record { width = 0; height = 0; free = [] }; starts = []; goals = [] }; bound = 0; nodes = None; rule = Classical }

-- what a board gives back is of a job for a child of a node of this problem's tree
abbrev pub IsGivenOf : Problem → Held WantedChild (Option Node) → Type 0
IsGivenOf p given = (job_in given).query.problem ≡ p

-- how many children it is: one, or only a job
abbrev pub children_in : {J A : Type 0} → Held J A → ℕ
children_in (Answer p) = 1
children_in (Job j) = 0

-- the current job of each slot, if any, is for a child of a node of this problem's tree
abbrev pub AreSidesOf : Problem → List (Option WantedChild) → Type 0
AreSidesOf p current = (slot : ℕ) (job : WantedChild) → slice_index_or current slot None ≡ Some job → job.query.problem ≡ p

-- the number of the job, if there is one
abbrev pub number_of : Option WantedChild → Option ℕ
number_of = option_map (λ job. job.number)

-- from the last taken node on a search took the next n nodes of the tree and has no answer yet, or it ended after at most n; and the
-- number of taken nodes didn't fall
abbrev pub HasTaken : Problem → ℕ → Searched → Searched → Result Progress NoMemory → Type 0
HasTaken p n from s (Ok Working) = (s.outcome ≡ Ok None) × TakesBetween p from.last s.last n × (from.taken ≤ s.taken)
HasTaken p n from s (Ok Finished) = (m : ℕ) × (m ≤ n) × TakesBetween p from.last s.last m × (from.taken ≤ s.taken)
HasTaken p n from s (Err _) = from.taken ≤ s.taken
