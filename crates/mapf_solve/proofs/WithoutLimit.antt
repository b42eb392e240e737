-- The limit on nodes is no part of the tree: without it the nodes, the solutions and the answer are the same.
use Rattle.std.proofs.Common.{ℕ, List, Option, Some, None}
use Rattle.mapf_grid.specs.Instance.{Instance}
use Rattle.mapf_plan.specs.declared.rule.Rule.{Rule}
use Rattle.mapf_tree.specs.Problem.{Problem}
use Rattle.mapf_tree.specs.Tree.{TreeNode, HasPlan, InTree, root, side, root_of, side_of, PlannedNode, IsMember, IsSolution, IsAnswer}

-- an instance under a bound and a rule, with a limit on nodes or without
abbrev limited : Instance → ℕ → Rule → Option ℕ → Problem
limited inst bound rule nodes = record { inst = inst; bound = bound; nodes = nodes; rule = rule }

module _ (inst : Instance) (bound : ℕ) (rule : Rule) (a b : Option ℕ) where
  planned : (node : TreeNode) (plan : List (List ℕ)) → HasPlan (limited inst bound rule a) node plan → HasPlan (limited inst bound rule b) node plan
  planned node plan has = record { agents = has.agents; own = has.own; within = has.within }

  inside : (node : TreeNode) → InTree (limited inst bound rule a) node → InTree (limited inst bound rule b) node
  inside _ (root {plan = plan} has) = root (planned (root_of (limited inst bound rule a)) plan has)
  inside _ (side {node = node} {plan = plan} {plan' = plan'} {c = c} s i has first more) =
      side s (inside node i) (planned node plan has) first (planned (side_of node c s) plan' more)

  member : (m : PlannedNode) → IsMember (limited inst bound rule a) m → IsMember (limited inst bound rule b) m
  member m is = record { inside = inside m.0 is.inside; plan = planned m.0 m.1 is.plan }

  solution : (m : PlannedNode) → IsSolution (limited inst bound rule a) m → IsSolution (limited inst bound rule b) m
  solution m is = record { planned = member m is.planned; no_conflict = is.no_conflict }

-- so the answer is the same
pub same_answer : (inst : Instance) (bound : ℕ) (rule : Rule) (a b : Option ℕ) (plan : Option (List (List ℕ))) → IsAnswer (limited inst bound rule a) plan → IsAnswer (limited inst bound rule b) plan
same_answer inst bound rule a b (Some plan) (node, first) =
    (node, record { member = solution inst bound rule a b (node, plan) first.member; least = λ s is. first.least s (solution inst bound rule b a s is) })
same_answer inst bound rule a b None never = λ m is. never m (solution inst bound rule b a m is)
