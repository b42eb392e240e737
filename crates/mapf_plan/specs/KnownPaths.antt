-- Paths by number, as a search remembers them: the plan of agents whose paths have certain numbers.
use Rattle.std.specs.Prelude.{◌≡◌, ◌⊎◌, ℕ, ◌<◌, ◌≤◌, List, [], length, map, slice_index_or, slice_set, Option, Some, None, All, Contains, min, max, ⊤}
use Rattle.mapf_grid.specs.declared.instance.TheConstants.{MOST_AGENTS}
use Rattle.mapf_plan.specs.declared.cache.first_times.FirstTime.{FirstTime}
use Rattle.mapf_plan.specs.declared.cache.first_times.FirstTime.TheVariants.{Unknown, Never, At}
use Rattle.mapf_plan.specs.declared.pair_conflicts.PairConflict.{PairConflict}
use Rattle.mapf_plan.specs.declared.rule.Rule.{Rule}
use Rattle.mapf_plan.specs.Plan.{path_of, IsConflict}
use Rattle.mapf_plan.specs.FirstConflict.{IsConflictOfTwo}
use Rattle.mapf_plan.specs.Collisions.{HaveNoneBefore}
use Rattle.mapf_plan.specs.PairConflicts.{HavePairConflicts}

-- paths, each by its place, and the rule by which agents on them have conflicts
pub record KnownPaths : Type 0 where
  pub rule : Rule
  pub paths : List (List ℕ)

-- each of these is the number of a path
abbrev pub AreNumbers : List (List ℕ) → List ℕ → Type 0
AreNumbers paths numbers = All (λ n. n < length paths) numbers

-- the plan of agents whose paths have these numbers, agent 0's first
abbrev pub plan_of : List (List ℕ) → List ℕ → List (List ℕ)
plan_of paths numbers = map (λ n. path_of paths n) numbers

-- and the plan where one of them has the path of another number
abbrev pub changed_plan : List (List ℕ) → List ℕ → (agent number : ℕ) → List (List ℕ)
changed_plan paths numbers agent number = slice_set (plan_of paths numbers) agent (path_of paths number)

-- these are the numbers of a plan's paths, and pair conflicts of its conflicts
pub record IsKnownPlan (known : KnownPaths) (numbers : List ℕ) (conflicts : List PairConflict) : Type 0 where
  pub few : length numbers ≤ MOST_AGENTS
  pub inside : AreNumbers known.paths numbers
  pub meet : HavePairConflicts (IsConflict known.rule (plan_of known.paths numbers)) conflicts

-- a row of a table of times by two numbers, and an entry of a row; nothing is known where there is none
abbrev pub row_in : List (List FirstTime) → ℕ → List FirstTime
row_in rows one = slice_index_or rows one []

abbrev pub time_in : List FirstTime → ℕ → FirstTime
time_in row other = slice_index_or row other Unknown

-- what is known of two paths once the time was looked for
abbrev pub known_time : Option ℕ → FirstTime
known_time None = Never
known_time (Some t) = At t

-- what is known of two paths is right
abbrev pub IsRight : Rule → List (List ℕ) → ℕ → ℕ → FirstTime → Type 0
IsRight rule paths one other Unknown = ⊤
IsRight rule paths one other Never = (one < length paths) × (other < length paths) × HaveNoneBefore rule (path_of paths one) (path_of paths other) None
IsRight rule paths one other (At t) = (one < length paths) × (other < length paths) × HaveNoneBefore rule (path_of paths one) (path_of paths other) (Some t)

-- all that a table knows is right
abbrev pub AreRight : Rule → List (List ℕ) → List (List FirstTime) → Type 0
AreRight rule paths rows = (one other : ℕ) → IsRight rule paths one other (time_in (row_in rows one) other)

-- a row after one entry of it was set, if it was
abbrev pub IsSetTime : List FirstTime → List FirstTime → ℕ → FirstTime → Type 0
IsSetTime row next other time = (j : ℕ) → (time_in next j ≡ time_in row j) ⊎ ((j ≡ other) × (time_in next j ≡ time))

-- a table after the time of two paths was kept in this order, if it was; and in either order
abbrev pub IsKept : List (List FirstTime) → List (List FirstTime) → ℕ → ℕ → FirstTime → Type 0
IsKept rows next one other time =
    (i : ℕ) → (row_in next i ≡ row_in rows i) ⊎ ((i ≡ one) × IsSetTime (row_in rows i) (row_in next i) other time)

abbrev pub AreKept : List (List FirstTime) → List (List FirstTime) → ℕ → ℕ → FirstTime → Type 0
AreKept rows next one other time =
    (between : List (List FirstTime)) × IsKept rows between one other time × IsKept between next other one time

-- the pair conflict of two agents of whose paths this is known was added, if there is one
abbrev pub IsAdded : ℕ → ℕ → FirstTime → List PairConflict → Type 0
IsAdded i j Unknown ms = ⊥
IsAdded i j Never ms = ⊤
IsAdded i j (At t) ms = Contains ms (record { first = min i j; second = max i j; time = t })

-- each conflict that two agents on the paths of these numbers have has a pair conflict, whatever the other agents' paths are
abbrev pub AreMet : KnownPaths → (i one j other : ℕ) → List PairConflict → Type 0
AreMet known i one j other ms = (plan : List (List ℕ)) → path_of known.paths one ≡ path_of plan i → path_of known.paths other ≡ path_of plan j
    → HavePairConflicts (IsConflictOfTwo known.rule plan i j) ms
