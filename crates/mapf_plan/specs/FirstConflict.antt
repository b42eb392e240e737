-- That a plan's first conflict exists (Sharon et al. 2015: the conflict that a node of the search branches on), and how it is
-- looked for, pair by pair.
use Rattle.std.specs.Prelude.{◌≡◌, ◌≢◌, ℕ, ◌<◌, ◌≤◌, ◌⊎◌, min, max, List, [], ◌∷◌, Option, Some, None, MatchOption, ⊤}
use Rattle.mapf_grid.specs.Least.{IsLeast, NoneBefore, Precedes}
use Rattle.mapf_plan.specs.declared.conflict.Conflict.{Conflict}
use Rattle.mapf_plan.specs.declared.rule.Rule.{Rule}
use Rattle.mapf_plan.specs.Plan.{IsConflict, IsFirstConflict, HasNoConflict, conflict_rank, conflict_time, first_agent, second_agent}

-- by either rule a plan has a first conflict, or none at any time
abbrev pub FirstConflictExists : Type 0
FirstConflictExists = (rule : Rule) (plan : List (List ℕ)) → ((c : Conflict) × IsFirstConflict rule plan c) ⊎ HasNoConflict rule plan

-- a conflict of these two agents
abbrev pub IsConflictOfPair : Rule → List (List ℕ) → ℕ → ℕ → Conflict → Type 0
IsConflictOfPair rule plan i j c = IsConflict rule plan c × (first_agent c ≡ i) × (second_agent c ≡ j)

-- a conflict of these two agents, in either order
abbrev pub IsConflictOfTwo : Rule → List (List ℕ) → ℕ → ℕ → Conflict → Type 0
IsConflictOfTwo rule plan i j c = IsConflictOfPair rule plan (min i j) (max i j) c

-- a conflict without this agent: there whatever that agent's path is
abbrev pub IsConflictWithout : Rule → List (List ℕ) → ℕ → Conflict → Type 0
IsConflictWithout rule plan agent c = IsConflict rule plan c × (first_agent c ≢ agent) × (second_agent c ≢ agent)

-- a conflict of this agent with one from another on
abbrev pub IsOfAgent : (agent others : ℕ) → Conflict → Type 0
IsOfAgent agent others c =
    ((first_agent c ≡ agent) × (others ≤ second_agent c)) ⊎ ((second_agent c ≡ agent) × (others ≤ first_agent c))

-- a conflict before a time step, and one at it
abbrev pub IsConflictBefore : Rule → List (List ℕ) → ℕ → Conflict → Type 0
IsConflictBefore rule plan end c = IsConflict rule plan c × (conflict_time c < end)

abbrev pub IsConflictAt : Rule → List (List ℕ) → ℕ → Conflict → Type 0
IsConflictAt rule plan time c = IsConflict rule plan c × (conflict_time c ≡ time)

-- no conflict is before a time step; and none of these two agents
abbrev pub HasNoConflictBefore : Rule → List (List ℕ) → ℕ → Type 0
HasNoConflictBefore rule plan time = NoneBefore conflict_rank (IsConflict rule plan) (time ∷ [])

abbrev pub PairHasNoneBefore : Rule → List (List ℕ) → ℕ → ℕ → ℕ → Type 0
PairHasNoneBefore rule plan i j time = NoneBefore conflict_rank (IsConflictOfPair rule plan i j) (time ∷ [])

-- what was found is the first conflict of these two agents; where nothing was found they have none before the end
abbrev pub IsFirstOfPair : Rule → List (List ℕ) → ℕ → ℕ → ℕ → Option Conflict → Type 0
IsFirstOfPair rule plan i j end found =
    MatchOption found (PairHasNoneBefore rule plan i j end) (λ c. IsLeast conflict_rank (IsConflictOfPair rule plan i j) c)

-- a conflict that comes before the one that is known, if one is known
abbrev pub IsEarlier : Conflict → Option Conflict → Type 0
IsEarlier c None = ⊤
IsEarlier c (Some known) = Precedes (conflict_rank c) (conflict_rank known)
