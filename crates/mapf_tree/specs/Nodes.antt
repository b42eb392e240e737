-- A node as contracts see it: as a chain of changes from the root, and which node of the tree it stands for (Sharon et al. 2015:
-- a child has one constraint more for one agent, and that agent's new path).
use Rattle.std.specs.Prelude.{◌≡◌, ℕ, ◌<◌, ◌↔◌, List, [], ◌∷◌, ◌++◌, length, replicate, slice_set, slice_index_or, All, Option, MatchOption, Contains}
use Rattle.std.specs.Cmp.{IsTotalOrder, back_total, on_total, nat_cmp_total}
use Rattle.std.specs.Cmp.Lexicographic.{slice_cmp, lists_total}
use Rattle.std.specs.Ordering.{flip_args, on, nat_cmp}
use Rattle.std.specs.declared.cmp.Ordering.{Ordering}
use Rattle.mapf_plan.specs.declared.conflict.Conflict.{Conflict}
use Rattle.mapf_plan.specs.declared.rule.Rule.{Rule}
use Rattle.mapf_plan.specs.Plan.{path_of, plan_cost, IsFirstConflict, HasNoConflict}
use Rattle.mapf_low.specs.declared.constraint.Constraint.{Constraint}
use Rattle.mapf_tree.specs.declared.tree.side.Side.{Side}
use Rattle.mapf_tree.specs.Problem.{Problem}
use Rattle.mapf_tree.specs.Tree.{TreeNode, PlannedNode, HasPlan, IsMember, root_of, side_of, agent_on, constraint_on, constraints_of, rank}

-- an agent is forbidden something more, and has another path from then on
pub record Changed : Type 0 where
  pub agent : ℕ
  pub constraint : Constraint
  pub path : List ℕ

-- what leads to a node: the root's plan, the rule of the tree, and what each turn changed
pub record Chain : Type 0 where
  pub root : List (List ℕ)
  pub rule : Rule
  pub changes : List Changed

-- with one change more
abbrev pub with_one : Chain → Changed → Chain
with_one chain x = record { root = chain.root; rule = chain.rule; changes = chain.changes ++ x ∷ [] }

-- each agent has the path of its last change, or that of the root
abbrev pub changed_plan : List (List ℕ) → List Changed → List (List ℕ)
changed_plan plan [] = plan
changed_plan plan (x ∷ xs) = changed_plan (slice_set plan x.agent x.path) xs

-- each agent's constraints are those of its changes
abbrev pub changed_sets : List (List Constraint) → List Changed → List (List Constraint)
changed_sets sets [] = sets
changed_sets sets (x ∷ xs) = changed_sets (slice_set sets x.agent (x.constraint ∷ slice_index_or sets x.agent [])) xs

-- a node's name, what its turns changed, each agent's set of constraints, its plan, the rule of its tree, and the plan's first
-- conflict by that rule
pub record Node : Type 0 where
  pub name : List Side
  pub changes : List Changed
  pub constraints : List (List Constraint)
  pub plan : List (List ℕ)
  pub rule : Rule
  pub conflict : Option Conflict

-- the node of this name and chain
abbrev pub node_of : List Side → Chain → Option Conflict → Node
node_of name chain conflict = record {
  name = name;
  changes = chain.changes;
  constraints = changed_sets (replicate (length chain.root) []) chain.changes;
  plan = changed_plan chain.root chain.changes;
  rule = chain.rule;
  conflict = conflict;
}

abbrev pub node_key : Node → List ℕ
node_key n = rank (plan_cost n.plan) (length n.name) n.name

-- nodes are compared by their keys, the greatest first
abbrev pub by_key : Node → Node → Ordering
by_key = flip_args (on node_key (slice_cmp nat_cmp))

-- it is an order
pub by_key_total : IsTotalOrder by_key
by_key_total = back_total (on_total node_key (lists_total nat_cmp_total))

-- the plan's first conflict by the rule, or none where it has no conflict
abbrev pub IsConflictOf : Rule → List (List ℕ) → Option Conflict → Type 0
IsConflictOf rule plan conflict = MatchOption conflict (HasNoConflict rule plan) (IsFirstConflict rule plan)

-- what always holds of a node: its key is that of its plan and name, its conflict is its plan's first, and each turn of its
-- name changed the path of one of the agents
pub record AgreesWith (sum turns : ℕ) (node : Node) : Type 0 where
  pub cost : sum ≡ plan_cost node.plan
  pub depth : turns ≡ length node.name
  pub conflict : IsConflictOf node.rule node.plan node.conflict
  pub turned : length node.changes ≡ length node.name
  pub agents : All (λ x. x.agent < length node.plan) node.changes

-- two lists that hold the same constraints
abbrev pub IsSameSet : List Constraint → List Constraint → Type 0
IsSameSet xs ys = (c : Constraint) → Contains xs c ↔ Contains ys c

-- the changes that lead from the root to a node of the tree with its plan, turn by turn: the agent on that side of the
-- first conflict, what the side forbids it, and its path in the side's plan
pub data AreChanges (problem : Problem) : TreeNode → List (List ℕ) → List Changed → Type 0 where
  unchanged : {plan : List (List ℕ)} → HasPlan problem (root_of problem) plan → AreChanges problem (root_of problem) plan []
  turned : {node : TreeNode} {plan plan' : List (List ℕ)} {c : Conflict} {changes : List Changed} (s : Side) →
      AreChanges problem node plan changes → IsFirstConflict problem.rule plan c → HasPlan problem (side_of node c s) plan' →
      AreChanges problem (side_of node c s) plan'
      (changes ++ record { agent = agent_on c s; constraint = constraint_on c s; path = path_of plan' (agent_on c s) } ∷ [])

-- the node stands for this node of the tree and its plan
pub record StandsFor (problem : Problem) (node : Node) (m : PlannedNode) : Type 0 where
  pub member : IsMember problem m
  pub name : node.name ≡ m.0.name
  pub changes : AreChanges problem m.0 m.1 node.changes
  pub plan : node.plan ≡ m.1
  pub agents : length node.constraints ≡ length problem.inst.starts
  pub sets : (i : ℕ) → i < length problem.inst.starts → IsSameSet (slice_index_or node.constraints i []) (constraints_of m.0 i)
  pub rule : node.rule ≡ problem.rule
  pub conflict : IsConflictOf problem.rule node.plan node.conflict

-- each node of the list stands for a node of the tree
abbrev pub AllStand : Problem → List Node → Type 0
AllStand problem nodes = (n : Node) → Contains nodes n → (m : PlannedNode) × StandsFor problem n m

-- a node of the list stands for this one
abbrev pub HasNodeFor : Problem → List Node → PlannedNode → Type 0
HasNodeFor problem nodes m = (n : Node) × Contains nodes n × StandsFor problem n m
