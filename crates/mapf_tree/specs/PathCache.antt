-- What a path cache remembers: the sets of constraints that agents have met, by number, and paths, by number.
use Rattle.std.specs.Prelude.{◌≡◌, ◌⊎◌, ◌↔◌, ℕ, ◌<◌, ◌≤◌, List, [], length, replicate, slice_get, slice_index, slice_index_or, Option, Some, None, option_map, IfSome, Contains}
use Rattle.mapf_plan.specs.Plan.{path_of}
use Rattle.mapf_plan.specs.declared.cache.known_plan.KnownPlan.{KnownPlan}
use Rattle.mapf_plan.specs.KnownPaths.{KnownPaths, IsKnownPlan, plan_of}
use Rattle.mapf_low.specs.declared.constraint.Constraint.{Constraint}
use Rattle.mapf_tree.specs.declared.tree.side.Side.{Side}
use Rattle.mapf_tree.specs.declared.own_paths.path_cache.node_numbers.NodeNumbers.{NodeNumbers}
use Rattle.mapf_tree.specs.declared.own_paths.constraint_sets.Extension.{Extension}
use Rattle.mapf_tree.specs.declared.own_paths.constraint_sets.CachedPath.{CachedPath}
use Rattle.mapf_tree.specs.declared.own_paths.constraint_sets.CachedPath.TheVariants.{Path, NoneWithin}
use Rattle.mapf_tree.specs.declared.own_paths.constraint_sets.ConstraintSet.{ConstraintSet}
use Rattle.mapf_tree.specs.Problem.{Problem}
use Rattle.mapf_tree.specs.Tree.{IsOwnPathOf}
use Rattle.mapf_tree.specs.Nodes.{Changed, Node, IsSameSet}
use Rattle.mapf_tree.specs.Family.{IsBranching, IsOwnWithin}
use Rattle.mapf_tree.specs.SideQuery.{SideQuery, IsQueryOf, IsFoundBy}

-- the set of this number is the agent's, and has these constraints
abbrev pub HasSet : List ConstraintSet → ℕ → ℕ → List Constraint → Type 0
HasSet sets number agent cs = (s : ConstraintSet) × (slice_get sets number ≡ Some s) × (s.agent ≡ agent) × (s.constraints ≡ cs)

-- one constraint more than a set has
abbrev pub HasOneMore : Constraint → List Constraint → List Constraint → Type 0
HasOneMore constraint cs all = (x : Constraint) → Contains all x ↔ ((x ≡ constraint) ⊎ Contains cs x)

-- two numbers are those of two sets of one agent: the second has this constraint more
abbrev pub IsExtension : List ConstraintSet → ℕ → Constraint → ℕ → Type 0
IsExtension sets before constraint after =
    (agent : ℕ) × (cs : List Constraint) × (all : List Constraint) × HasSet sets before agent cs × HasSet sets after agent all × HasOneMore constraint cs all

-- the own path is known: it is this path of this number
abbrev pub HasPath : CachedPath → ℕ → List ℕ → Type 0
HasPath (Path number own) n path = (number ≡ n) × (own.value ≡ path)
HasPath (NoneWithin bound) n path = ⊥

-- the change, if there is one, forbids a set's agent this, and gives it the set's path
abbrev pub GivesOwn : List ConstraintSet → ℕ → Constraint → Option Changed → Type 0
GivesOwn sets set constraint change =
    IfSome change (λ x. (x.constraint ≡ constraint) × ((s : ConstraintSet) → slice_get sets set ≡ Some s → (x.agent ≡ s.agent) × (number : ℕ) × HasPath s.own number x.path))

-- an extension is one, and its change gives the path of its second set
abbrev pub AreExtensions : List ConstraintSet → List Extension → Type 0
AreExtensions sets extensions =
    (number : ℕ) (e : Extension) → slice_get extensions number ≡ Some e →
    IsExtension sets e.before e.constraint e.after × GivesOwn sets e.after e.constraint (option_map (λ c. c.value) e.change)

-- whichever agent has the set of the first number, that of the second is its set with this constraint more
abbrev pub IsExtended : List ConstraintSet → ℕ → Constraint → ℕ → Type 0
IsExtended sets before constraint after =
    (agent : ℕ) (cs : List Constraint) → HasSet sets before agent cs → (all : List Constraint) × HasSet sets after agent all × HasOneMore constraint cs all

-- an extension adds this constraint to the set of this number, and its change gives the path of its second set
abbrev pub Extends : List ConstraintSet → ℕ → Constraint → Extension → Type 0
Extends sets before constraint e = IsExtended sets before constraint e.after × GivesOwn sets e.after constraint (option_map (λ c. c.value) e.change)

-- sets and paths by number
pub record PathCache : Type 0 where
  pub problem : Problem
  pub sets : List ConstraintSet
  pub paths : List (List ℕ)

-- the path of that number is the agent's own under these constraints; or there is none that costs so little
abbrev pub IsCachedPath : Problem → List (List ℕ) → ℕ → List Constraint → CachedPath → Type 0
IsCachedPath problem paths agent cs (Path number path) = (slice_get paths number ≡ Some path.value) × IsOwnPathOf problem agent cs path.value
IsCachedPath problem paths agent cs (NoneWithin bound) = IsOwnWithin problem bound agent cs None

-- what is remembered of each set is so
abbrev pub AreKnown : Problem → List (List ℕ) → List ConstraintSet → Type 0
AreKnown problem paths sets = (number : ℕ) (s : ConstraintSet) → slice_get sets number ≡ Some s → IsCachedPath problem paths s.agent s.constraints s.own

-- each agent's set has this number
pub record AreSetsOf (sets : List ConstraintSet) (numbers : List ℕ) (constraints : List (List Constraint)) : Type 0 where
  pub each : length numbers ≡ length constraints
  pub same : (agent : ℕ) → agent < length constraints →
      (cs : List Constraint) × HasSet sets (slice_index numbers agent) agent cs × IsSameSet cs (slice_index_or constraints agent [])

-- these are the numbers of the agents' empty sets, if there are any
abbrev pub AreFirst : Problem → List ConstraintSet → List ℕ → Type 0
AreFirst problem sets numbers = (numbers ≡ []) ⊎ AreSetsOf sets numbers (replicate (length problem.inst.starts) [])

-- a plan by the numbers of its paths in a cache, with pair conflicts of its conflicts
abbrev pub IsPlanOf : PathCache → KnownPlan → Type 0
IsPlanOf cache plan = IsKnownPlan (record { rule = cache.problem.rule; paths = cache.paths }) plan.numbers.items plan.conflicts.items

-- the paths of the first agents have these numbers
abbrev pub AreFirstPaths : List (List ℕ) → List ℕ → List (List ℕ) → ℕ → Type 0
AreFirstPaths paths numbers plan n = (k : ℕ) → k < n → slice_get paths (slice_index numbers k) ≡ Some (path_of plan k)

-- a plan of as many agents as a node has, the first of which have their paths at the node
abbrev pub IsPlanUpTo : PathCache → Node → ℕ → KnownPlan → Type 0
IsPlanUpTo cache node n plan = IsPlanOf cache plan × (length plan.numbers.items ≡ length node.plan) × AreFirstPaths cache.paths plan.numbers.items node.plan n

-- the numbers are those of each agent's set at a node and of its plan
pub record IsAt (cache : PathCache) (node : Node) (at : NodeNumbers) : Type 0 where
  pub sets : AreSetsOf cache.sets at.sets.items node.constraints
  pub plan : IsPlanOf cache at.plan
  pub same : plan_of cache.paths at.plan.numbers.items ≡ node.plan

-- the number of the own path under a set, at a cost of at most the bound; or that there is none
abbrev pub IsOwnIn : PathCache → ℕ → ℕ → Option ℕ → Type 0
IsOwnIn cache set bound found =
    (agent : ℕ) (cs : List Constraint) → HasSet cache.sets set agent cs → IsOwnWithin cache.problem bound agent cs (option_map (λ n. path_of cache.paths n) found)

-- the number is that of a set's path
abbrev pub IsNumberOf : List ConstraintSet → ℕ → ℕ → Type 0
IsNumberOf sets set number = (s : ConstraintSet) × (slice_get sets set ≡ Some s) × (path : List ℕ) × HasPath s.own number path

-- the query is that of a side of a node of the tree
abbrev pub IsQueryIn : Problem → Node → SideQuery → Type 0
IsQueryIn problem node q = IsBranching problem node × (q.problem ≡ problem) × IsQueryOf node q

-- what is remembered of the set of this number tells whether its own path costs at most the bound
abbrev pub IsTold : ℕ → CachedPath → Type 0
IsTold bound (Path number path) = Unit {0}
IsTold bound (NoneWithin least) = bound ≤ least

abbrev pub TellsUpTo : List ConstraintSet → ℕ → ℕ → Type 0
TellsUpTo sets number bound = (s : ConstraintSet) → slice_get sets number ≡ Some s → IsTold bound s.own

-- a set has what the query's agent is forbidden, and the own path that it asks for is told
abbrev pub KnowsAnswerTo : PathCache → SideQuery → Type 0
KnowsAnswerTo cache q = (number : ℕ) × HasSet cache.sets number q.agent q.constraints × TellsUpTo cache.sets number q.bound

-- the query is that of a side of a node, for the cache's problem
abbrev pub IsAskedAt : PathCache → Node → Side → SideQuery → Type 0
IsAskedAt cache node side q = (q.problem ≡ cache.problem) × (q.side ≡ side) × IsQueryOf node q

-- what the turn to a side of a node changes, where the new path has this number
abbrev pub IsTurnAt : PathCache → Node → Side → ℕ → Changed → Type 0
IsTurnAt cache node side number x =
    (q : SideQuery) × IsAskedAt cache node side q × (x.agent ≡ q.agent) × (x.constraint ≡ q.constraint)
    × (slice_get cache.paths number ≡ Some x.path) × IsFoundBy q (Some x.path)

-- the own path that a side of a node asks for isn't there
abbrev pub HasNoTurnAt : PathCache → Node → Side → Type 0
HasNoTurnAt cache node side = (q : SideQuery) × IsAskedAt cache node side q × IsFoundBy q None

-- all that a cache remembers holds, and its paths are compared by the problem's rule
abbrev pub IsRemembered : Problem → List ℕ → Option NodeNumbers → List ConstraintSet → KnownPaths → Type 0
IsRemembered problem firsts latest sets paths =
    AreKnown problem paths.paths sets × AreFirst problem sets firsts × (paths.rule ≡ problem.rule)
    × IfSome latest (λ at. IsKnownPlan paths at.plan.numbers.items at.plan.conflicts.items)
