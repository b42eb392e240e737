-- A search: which nodes of the tree it took, and which wait (the high level of Sharon et al. 2015, best first).
use Rattle.std.specs.Prelude.{◌≡◌, ◌⊎◌, ◌↔◌, ◌≤◌, ◌-◌, ◌^◌, ℕ, min, List, [], length, Option, Some, None, IfSome, Result, Ok, Err, Contains}
use Rattle.mapf_grid.specs.declared.fault.NoMemory.{NoMemory}
use Rattle.mapf_grid.specs.Least.{Precedes, IsLeast}
use Rattle.mapf_plan.specs.declared.conflict.Conflict.{Conflict}
use Rattle.mapf_plan.specs.Plan.{plan_cost, IsFirstConflict, HasNoConflict}
use Rattle.mapf_plan.specs.declared.answer.Answer.{Answer}
use Rattle.mapf_plan.specs.declared.answer.Answer.TheVariants as answer
use Rattle.mapf_tree.specs.declared.tree.side.Side.{Side}
use Rattle.mapf_tree.specs.Problem.{Problem}
use Rattle.mapf_tree.specs.Tree.{PlannedNode, IsMember, EachOnce, side_of, root_of, key}
use Rattle.mapf_tree.specs.Answered.{IsAnswerOf}
use Rattle.mapf_tree.specs.Nodes.{Node, AllStand, HasNodeFor}

-- the key is at most the last taken one
abbrev pub IsReached : Option (List ℕ) → PlannedNode → Type 0
IsReached None m = ⊥
IsReached (Some last) m = ¬ Precedes last (key m)

-- one of the two sides of the conflict that the parent's plan branches on
pub record IsChild (problem : Problem) (parent child : PlannedNode) : Type 0 where
  pub conflict : Conflict
  pub turn : Side
  pub first : IsFirstConflict problem.rule parent.1 conflict
  pub is : child.0 ≡ side_of parent.0 conflict turn

-- not reached, and the root or a side of one that is
pub record IsWaiting (problem : Problem) (last : Option (List ℕ)) (m : PlannedNode) : Type 0 where
  pub member : IsMember problem m
  pub open_yet : ¬ IsReached last m
  pub from : (m.0 ≡ root_of problem) ⊎ ((p : PlannedNode) × IsMember problem p × IsReached last p × IsChild problem p m)

-- no node with a key up to the last one is a solution
abbrev pub NoneSolves : Problem → Option (List ℕ) → Type 0
NoneSolves problem last = (m : PlannedNode) → IsMember problem m → IsReached last m → ¬ HasNoConflict problem.rule m.1

-- the nodes with keys up to the last one are taken: that is the key of one of them, and none but that one is a solution.
-- The list has the nodes that are not taken and are the root or a side of one that is
pub record IsTakenTo (problem : Problem) (last : Option (List ℕ)) (nodes : List Node) : Type 0 where
  pub greatest : IfSome last (λ k. (m : PlannedNode) × IsMember problem m × (key m ≡ k))
  pub none_before : (m : PlannedNode) → IsMember problem m → IsReached last m → HasNoConflict problem.rule m.1 → last ≡ Some (key m)
  pub stand : AllStand problem nodes
  pub waits : (m : PlannedNode) → HasNodeFor problem nodes m ↔ IsWaiting problem last m

-- exactly n nodes of the tree have keys above the one and up to the other
abbrev pub TakesBetween : Problem → Option (List ℕ) → Option (List ℕ) → ℕ → Type 0
TakesBetween problem from to n =
    (taken : List PlannedNode) × EachOnce taken × (length taken ≡ n)
    × ((m : PlannedNode) → Contains taken m ↔ (IsMember problem m × IsReached to m × ¬ IsReached from m))

-- the last node that was taken is a solution, and its plan is the answer
abbrev pub IsSolvedBy : Problem → Option (List ℕ) → Answer → Type 0
IsSolvedBy problem last given =
    (x : PlannedNode) × IsMember problem x × HasNoConflict problem.rule x.1 × (last ≡ Some (key x)) × (given ≡ answer.Plan x.1 (plan_cost x.1))

-- as many nodes are taken as may be, and a node waits: the least cost of those that wait is stated
abbrev pub HasGivenUp : Problem → List Node → Option (List ℕ) → Answer → Type 0
HasGivenUp problem nodes last given =
    (n : ℕ) × (problem.nodes ≡ Some n) × TakesBetween problem None last n
    × ((x : PlannedNode) × IsLeast key (HasNodeFor problem nodes) x × (given ≡ answer.GaveUp n (plan_cost x.1)))

-- a search has its answer from the last node that it took, because nothing waits, or because it may take no more
abbrev pub IsEnded : Problem → List Node → Option (List ℕ) → Answer → Type 0
IsEnded problem nodes last given =
    ((nodes ≡ []) × (given ≡ answer.None problem.bound)) ⊎ (IsSolvedBy problem last given ⊎ HasGivenUp problem nodes last given)

-- while there is no answer yet, no taken node is a solution; an answer is the right one, and nothing was taken after it; after memory ran out nothing is said
abbrev pub IsLawful : Problem → List Node → Option (List ℕ) → Result (Option Answer) NoMemory → Type 0
IsLawful problem nodes last (Ok None) = IsTakenTo problem last nodes × NoneSolves problem last
IsLawful problem nodes last (Ok (Some given)) = IsTakenTo problem last nodes × IsAnswerOf problem given × IsEnded problem nodes last given
IsLawful problem nodes last (Err _) = Unit {0}

-- the greatest number that a count can be; a count that has reached it stays there
abbrev pub most_counted : ℕ
most_counted = 2 ^ 64 - 1

-- so many nodes are taken; with more than the greatest number it is that number
abbrev pub CountsTaken : Problem → Option (List ℕ) → ℕ → Type 0
CountsTaken problem last taken = (n : ℕ) × TakesBetween problem None last n × (taken ≡ min n most_counted)

-- so many nodes are taken, and no more than may be
abbrev pub IsCounted : Problem → Option (List ℕ) → ℕ → Type 0
IsCounted problem last taken = CountsTaken problem last taken × ((n : ℕ) → problem.nodes ≡ Some n → taken ≤ n)

-- the problem, the nodes that wait, the key of the last taken node, how many were taken, and what came of it: an answer, none yet, or out of memory
pub record Searched : Type 0 where
  pub problem : Problem
  pub waiting : List Node
  pub last : Option (List ℕ)
  pub taken : ℕ
  pub outcome : Result (Option Answer) NoMemory

abbrev pub IsSearch : Searched → Type 0
IsSearch s = IsLawful s.problem s.waiting s.last s.outcome

-- the answer, where there is one
abbrev pub answer_of : Result (Option Answer) NoMemory → Option Answer
answer_of (Ok given) = given
answer_of (Err _) = None
