-- What a search does step by step: it takes the nodes of the tree in the order of their keys, and ends with the answer.
use Rattle.std.specs.List.{AllByRecursion}
use Rattle.std.specs.Prelude.{◌≡◌, ◌≢◌, ◌<◌, ◌≤◌, length, [], ℕ, ◌⊎◌, ◌↔◌, List, Option, Some, None, Result, Ok, Err, IsErr, Contains}
use Rattle.mapf_grid.specs.declared.fault.NoMemory.{NoMemory}
use Rattle.mapf_grid.specs.Least.{IsLeast}
use Rattle.mapf_plan.specs.Plan.{HasNoConflict}
use Rattle.mapf_plan.specs.declared.answer.Answer.{Answer}
use Rattle.mapf_plan.specs.declared.answer.Answer.TheVariants as answer
use Rattle.mapf_tree.specs.declared.search.progress.Progress.{Progress}
use Rattle.mapf_tree.specs.declared.search.progress.Progress.TheVariants.{Working, Finished}
use Rattle.mapf_tree.specs.declared.search.expansion.Expansion.{Expansion}
use Rattle.mapf_tree.specs.declared.search.expansion.Expansion.TheVariants as expansion
use Rattle.mapf_tree.specs.Problem.{Problem}
use Rattle.mapf_tree.specs.Tree.{PlannedNode, IsMember, EachOnce, root_of, key, IsFirstSolution, IsAnswer}
use Rattle.mapf_tree.specs.Nodes.{Node, node_key, AllStand, HasNodeFor}
use Rattle.mapf_tree.specs.LowerBound.{IsLeastCost}
use Rattle.mapf_tree.specs.Search.{Searched, IsReached, IsChild, IsWaiting, NoneSolves}

-- no solution was reached, and just those wait that are to wait
pub record IsSearchAt (problem : Problem) (last : Option (List ℕ)) (Waits : PlannedNode → Type 0) : Type 0 where
  pub waits : (m : PlannedNode) → Waits m ↔ IsWaiting problem last m
  pub none_yet : NoneSolves problem last

-- once x is expanded those wait that waited, but for x, and the sides of x that are in the tree
abbrev pub Expands : Problem → (PlannedNode → Type 0) → PlannedNode → (PlannedNode → Type 0) → Type 0
Expands problem Waits x Next =
    (m : PlannedNode) → Next m ↔ ((Waits m × (m ≢ x)) ⊎ (IsMember problem m × IsChild problem x m))

-- with no node taken, the root waits if it is in the tree
abbrev pub SearchStarts : Type 0
SearchStarts =
    (problem : Problem) (waiting : List PlannedNode) →
    ((m : PlannedNode) → Contains waiting m ↔ (IsMember problem m × (m.0 ≡ root_of problem))) → IsSearchAt problem None (Contains waiting)

-- the least waiting node is the next one of the tree in key order
abbrev pub TakesNext : Type 0
TakesNext =
    (problem : Problem) (last : Option (List ℕ)) (waiting next : List PlannedNode) (x : PlannedNode) →
    IsSearchAt problem last (Contains waiting) → IsLeast key (Contains waiting) x → ¬ HasNoConflict problem.rule x.1 → Expands problem (Contains waiting) x (Contains next) →
    IsSearchAt problem (Some (key x)) (Contains next)
    × ((m : PlannedNode) → IsMember problem m → IsReached (Some (key x)) m ↔ (IsReached last m ⊎ (m ≡ x)))

-- the least of those that wait is the first solution, if its plan has no conflict; and if none waits, there is no solution
abbrev pub EndsAtAnswer : Type 0
EndsAtAnswer =
    (problem : Problem) (last : Option (List ℕ)) (waiting : List PlannedNode) → IsSearchAt problem last (Contains waiting) →
    ((x : PlannedNode) → IsLeast key (Contains waiting) x → HasNoConflict problem.rule x.1 → IsFirstSolution problem x)
    × (((x : PlannedNode) → ¬ Contains waiting x) → IsAnswer problem None)

-- a number that the taken nodes of the tree never exceed
abbrev pub TakenAreBounded : Type 0
TakenAreBounded =
    (problem : Problem) → (size : ℕ) × ((taken : List PlannedNode) → EachOnce taken → AllByRecursion (IsMember problem) taken → length taken ≤ size)

-- the least waiting node x is taken, and its sides in the tree wait
pub record ExpandsLeast (problem : Problem) (old new : List Node) (x : PlannedNode) : Type 0 where
  pub least : IsLeast key (HasNodeFor problem old) x
  pub stand : AllStand problem new
  pub next : Expands problem (HasNodeFor problem old) x (HasNodeFor problem new)

-- nothing waits; or the plan of the taken node has no conflict; or it has one, and the sides wait
abbrev pub TakesLeast : Problem → List Node → List Node → Expansion → Type 0
TakesLeast problem old new expansion.Empty = (old ≡ []) × (new ≡ [])
TakesLeast problem old new (expansion.Solved node plan) =
    (x : PlannedNode) × ExpandsLeast problem old new x × HasNoConflict problem.rule x.1 × (node_key node ≡ key x) × (plan ≡ x.1)
TakesLeast problem old new (expansion.Branched node) = (x : PlannedNode) × ExpandsLeast problem old new x × (¬ HasNoConflict problem.rule x.1) × (node_key node ≡ key x)

-- as many nodes are taken as may be, and a node waits: the least cost of those that wait is stated
abbrev pub IsGivenUp : Problem → List Node → ℕ → Answer → Type 0
IsGivenUp problem waiting taken given =
    (n : ℕ) × (problem.nodes ≡ Some n) × (n ≤ taken) × ((least : ℕ) × IsLeastCost problem waiting least × (given ≡ answer.GaveUp n least))

-- one node more may be taken, or none waits
abbrev pub GoesUpTo : Problem → List Node → ℕ → Type 0
GoesUpTo problem waiting taken = (n : ℕ) → problem.nodes ≡ Some n → (taken < n) ⊎ (waiting ≡ [])

-- one node more of the tree is reached
abbrev pub TakesOne : Problem → Option (List ℕ) → Option (List ℕ) → Type 0
TakesOne problem from to =
    (x : PlannedNode) × IsMember problem x × (¬ IsReached from x)
    × ((m : PlannedNode) → IsMember problem m → IsReached to m ↔ (IsReached from m ⊎ (m ≡ x)))

-- one node is taken; or there is an answer, from one node more or because nothing waits; or memory ran out
abbrev pub IsStep : Searched → Searched → Result Progress NoMemory → Type 0
IsStep old new (Ok Working) = (new.outcome ≡ Ok None) × TakesOne old.problem old.last new.last
IsStep old new (Ok Finished) =
    ((given : Answer) × (new.outcome ≡ Ok (Some given))) × ((new.last ≡ old.last) ⊎ TakesOne old.problem old.last new.last)
IsStep old new (Err _) = IsErr new.outcome
