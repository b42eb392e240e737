-- An agent's path costs no less where the agent is forbidden more.
use Rattle.mapf_tree.proofs.Prelude.{ℕ, ◌<◌, ◌≤◌, List, [], length, get_or, inr, subst, sym, ap, ◌∙◌, arith, get_or-le-sum_by, first_le, AllByRecursion-fewer}
use Rattle.mapf_tree.specs.Prelude.{cost, path_of, Constraint, Breaks, Problem, IsAllowedFor, IsOwnPathOf, PlannedNode, constraints_of, Node, StandsFor, Leaves}
use Rattle.mapf_tree.proofs.ConstraintSets.{IsWith}

-- what the agent may take under one constraint more it may take at the node
allowed_before : (p : Problem) (node : Node) (m : PlannedNode) (i bound : ℕ) (k : Constraint) (more : List Constraint) (path : List ℕ) → StandsFor p node m → i < length p.inst.starts → bound ≤ p.bound →
    IsWith k (get_or node.constraints i []) more → IsAllowedFor (record p { bound = bound }) i more path → IsAllowedFor p i (constraints_of m.0 i) path
allowed_before p node m i bound k more path shows inside small after allowed = record {
  path = allowed.path;
  within = omega (arith, allowed.within, small);
  obeys = AllByRecursion-fewer (λ c. ¬ Breaks path c) more (constraints_of m.0 i) (λ c h. (after c).1 (inr ((shows.sets i inside c).1 h))) allowed.obeys;
}

-- so it costs at least what the agent's path costs at the node
pub costs_no_less : (p : Problem) (node : Node) (m : PlannedNode) (i bound : ℕ) (k : Constraint) (more : List Constraint) → StandsFor p node m → i < length p.inst.starts → Leaves p node.plan i bound →
    IsWith k (get_or node.constraints i []) more → (path : List ℕ) → IsAllowedFor (record p { bound = bound }) i more path → cost (path_of node.plan i) ≤ cost path
costs_no_less p node m i bound k more shows inside leaves after path allowed =
    let in_plan : i < length node.plan = subst (λ n. i < n) (sym (ap length shows.plan ∙ shows.member.plan.agents)) inside in
    let small : bound ≤ p.bound = omega (arith, leaves, get_or-le-sum_by cost node.plan i [] in_plan) in
    let own : IsOwnPathOf p i (constraints_of m.0 i) (path_of node.plan i) = subst (λ plan. IsOwnPathOf p i (constraints_of m.0 i) (path_of plan i)) (sym shows.plan) (shows.member.plan.own i inside) in
    first_le _ _ _ _ (own.least path (allowed_before p node m i bound k more path shows inside small after allowed))
