-- What holds of every constraint tree: it is finite, and its answer is an optimum (Sharon et al. 2015: conflict-based search
-- is complete and optimal, and ends under a bound on the cost).
use Rattle.std.specs.Prelude.{◌≡◌, ◌≢◌, ℕ, ◌<◌, ◌≤◌, ◌+◌, ◌*◌, ◌⊎◌, ◌↔◌, List, [], ◌∷◌, length, Option, Some, None, Contains}
use Rattle.mapf_grid.specs.Grid.{Grid, IsFree, Next}
use Rattle.mapf_plan.specs.declared.answer.Answer.{Answer}
use Rattle.mapf_plan.specs.declared.conflict.Conflict.{Conflict}
use Rattle.mapf_plan.specs.declared.conflict.Conflict.TheVariants.{Following}
use Rattle.mapf_plan.specs.Path.{cost}
use Rattle.mapf_plan.specs.Plan.{IsConflict, IsFirstConflict, IsValid, IsOptimum, plan_cost, path_of}
use Rattle.mapf_low.specs.Constraints.{Obeys}
use Rattle.mapf_low.specs.Times.{time_of}
use Rattle.mapf_tree.specs.declared.tree.side.Side.{Side}
use Rattle.mapf_tree.specs.declared.tree.side.Side.TheVariants.{Left, Right}
use Rattle.mapf_tree.specs.Problem.{Problem}
use Rattle.mapf_tree.specs.Tree.{TreeNode, HasPlan, InTree, IsAllowedFor, IsOwnPathOf, IsAnswer, side_of, constraints_of, constraint_on, agent_on}
use Rattle.mapf_tree.specs.Family.{Leaves}
use Rattle.mapf_tree.specs.Answered.{IsAnswerOf}

-- each agent's path obeys the constraints of that agent
abbrev pub ObeysNode : Problem → TreeNode → List (List ℕ) → Type 0
ObeysNode problem node plan = (i : ℕ) → i < length problem.inst.starts → Obeys (constraints_of node i) (path_of plan i)

-- a valid plan that obeys a node obeys one of the sides of a conflict of the node's plan
abbrev pub ObeysOneSide : Type 0
ObeysOneSide =
    (problem : Problem) (node : TreeNode) (plan other : List (List ℕ)) (c : Conflict) →
    length node.constraints ≡ length problem.inst.starts → length plan ≡ length problem.inst.starts → IsConflict problem.rule plan c →
    IsValid problem.rule problem.inst other → ObeysNode problem node other →
    ObeysNode problem (side_of node c Left) other ⊎ ObeysNode problem (side_of node c Right) other

-- a valid plan within the bound that obeys a node gives it a plan, which costs no more
abbrev pub ObeyedIsInCost : Type 0
ObeyedIsInCost =
    (problem : Problem) (node : TreeNode) (other : List (List ℕ)) →
    IsValid problem.rule problem.inst other → plan_cost other ≤ problem.bound → ObeysNode problem node other →
    (plan : List (List ℕ)) × HasPlan problem node plan × (plan_cost plan ≤ plan_cost other)

-- no plan of a node has a dearer path of an agent than the other agents leave of the bound
abbrev pub NoneIsDearer : Type 0
NoneIsDearer =
    (problem : Problem) (node : TreeNode) (plan : List (List ℕ)) (i bound : ℕ) →
    HasPlan problem node plan → Leaves problem plan i bound → cost (path_of plan i) ≤ bound

-- the side's constraint is new to its agent
abbrev pub ConstraintIsNew : Type 0
ConstraintIsNew =
    (problem : Problem) (node : TreeNode) (plan : List (List ℕ)) (c : Conflict) (s : Side) →
    HasPlan problem node plan → IsConflict problem.rule plan c → ¬ Contains (constraints_of node (agent_on c s)) (constraint_on c s)

-- a side forbids nothing after the bound
abbrev pub ConstraintIsEarly : Type 0
ConstraintIsEarly =
    (problem : Problem) (node : TreeNode) (plan : List (List ℕ)) (c : Conflict) (s : Side) →
    HasPlan problem node plan → IsFirstConflict problem.rule plan c → time_of (constraint_on c s) ≤ problem.bound

-- at time 1 a leader has left its start, which it may not have left before: that side isn't in the tree
abbrev pub LeaderAtStart : Type 0
LeaderAtStart =
    (problem : Problem) (node : TreeNode) (plan other : List (List ℕ)) (i j v : ℕ) (s : Side) →
    InTree problem node → HasPlan problem node plan → IsConflict problem.rule plan (Following 1 i j v) → agent_on (Following 1 i j v) s ≡ j →
    ¬ HasPlan problem (side_of node (Following 1 i j v) s) other

-- every free cell, and every two neighbouring free cells
pub record HoldsGrid (g : Grid) (cells : List ℕ) (edges : List (ℕ × ℕ)) : Type 0 where
  pub all_cells : (c : ℕ) → IsFree g c → Contains cells c
  pub all_edges : (u v : ℕ) → Next g u v → u ≢ v → Contains edges (u, v)

-- no name is longer than there are constraints for all agents
abbrev pub DepthIsBounded : Type 0
DepthIsBounded =
    (problem : Problem) (cells : List ℕ) (edges : List (ℕ × ℕ)) → HoldsGrid problem.inst.grid cells edges →
    (node : TreeNode) → InTree problem node →
    length node.name ≤ length problem.inst.starts * ((problem.bound + 1) * (length cells + length edges))

-- a list holds exactly the nodes of the tree
abbrev pub TreeIsFinite : Type 0
TreeIsFinite = (problem : Problem) → (nodes : List TreeNode) × ((node : TreeNode) → InTree problem node ↔ Contains nodes node)

-- each problem has an answer
abbrev pub AnswerExists : Type 0
AnswerExists = (problem : Problem) → (answer : Option (List (List ℕ))) × IsAnswer problem answer

-- a problem has one answer at most
abbrev pub AnswerIsUnique : Type 0
AnswerIsUnique = (problem : Problem) (a b : Option (List (List ℕ))) → IsAnswer problem a → IsAnswer problem b → a ≡ b

-- nor has it two as they are stated, with a limit on nodes or without
abbrev pub StatedIsUnique : Type 0
StatedIsUnique = (problem : Problem) (a b : Answer) → IsAnswerOf problem a → IsAnswerOf problem b → a ≡ b

-- the answer's plan is valid, and no valid plan costs less
abbrev pub AnswerIsOptimum : Type 0
AnswerIsOptimum = (problem : Problem) (plan : List (List ℕ)) → IsAnswer problem (Some plan) → IsOptimum problem.rule problem.inst problem.bound plan

-- there is no answer exactly if there is no valid plan within the bound
abbrev pub NoneIsNone : Type 0
NoneIsNone = (problem : Problem) → IsAnswer problem None ↔ ((plan : List (List ℕ)) → IsValid problem.rule problem.inst plan → plan_cost plan ≤ problem.bound → ⊥)

-- the answer for one agent, as the low-level search has it: a conflict is of two agents, so no plan has one. The only agent's
-- own path is the answer's plan; if it may take no path, there is none
abbrev pub OneAgentsAnswer : Type 0
OneAgentsAnswer =
    (problem : Problem) → length problem.inst.starts ≡ 1 →
    ((path : List ℕ) → IsOwnPathOf problem 0 [] path → IsAnswer problem (Some (path ∷ [])))
    × (((path : List ℕ) → ¬ IsAllowedFor problem 0 [] path) → IsAnswer problem None)
