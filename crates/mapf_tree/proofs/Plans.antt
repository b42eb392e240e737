-- The plan of a node: there is one at most, and whether there is one can be decided.
use Rattle.mapf_tree.proofs.Prelude.{◌≡◌, ◌⊎◌, ℕ, ◌<◌, ◌≤◌, List, [], length, get_or, inl, inr, subst, sym, ap, ◌∙◌, ext_get_or, ⊎_elim, arith, dec_map, build_or, own_path, same_own}
use native.Mathlib.Decide.{dec_le}
use Rattle.mapf_tree.specs.Prelude.{cost, path_of, plan_cost, Problem, IsAllowedFor, IsOwnPathOf, TreeNode, HasPlan, constraints_of}

-- a path that agent i may take under a node
abbrev pub AllowedAt : Problem → TreeNode → ℕ → List ℕ → Type 0
AllowedAt problem node i p = IsAllowedFor problem i (constraints_of node i) p

-- the own path of agent i under a node
abbrev pub OwnAt : Problem → TreeNode → ℕ → List ℕ → Type 0
OwnAt problem node i p = IsOwnPathOf problem i (constraints_of node i) p

-- a node is in cost if it has a plan
abbrev pub InCost : Problem → TreeNode → Type 0
InCost problem node = (plan : List (List ℕ)) × HasPlan problem node plan

-- an agent has an own path under a node, or no path that it may take
pub own_at : (problem : Problem) (node : TreeNode) (i : ℕ) → ((p : List ℕ) × OwnAt problem node i p) ⊎ ((p : List ℕ) → ¬ AllowedAt problem node i p)
own_at problem node i = own_path problem.inst.grid (get_or problem.inst.starts i 0) (get_or problem.inst.goals i 0) problem.bound (constraints_of node i)

-- each path of a node's plan costs at most the bound
pub plan_costs : (problem : Problem) (node : TreeNode) (plan : List (List ℕ)) → HasPlan problem node plan → (i : ℕ) → i < length plan → cost (path_of plan i) ≤ problem.bound
plan_costs problem node plan has i h = (has.own i (subst (λ k. i < k) has.agents h)).member.within

-- lists of own paths of one node are equal
pub same_paths : (problem : Problem) (node : TreeNode) (plan other : List (List ℕ)) → length plan ≡ length problem.inst.starts → length other ≡ length problem.inst.starts → ((i : ℕ) → i < length problem.inst.starts → OwnAt problem node i (path_of plan i)) → ((i : ℕ) → i < length problem.inst.starts → OwnAt problem node i (path_of other i)) → plan ≡ other
same_paths problem node plan other n m own own' =
    ext_get_or [] plan other (n ∙ sym m) (λ i l. let k = subst (λ m. i < m) n l in same_own _ _ _ _ _ _ _ (own i k) (own' i k))

-- a node has one plan at most
pub same_plan : (problem : Problem) (node : TreeNode) (plan other : List (List ℕ)) → HasPlan problem node plan → HasPlan problem node other → plan ≡ other
same_plan problem node plan other h k = same_paths problem node plan other h.agents k.agents h.own k.own

-- own paths that cost too much leave a node without a plan
pub dear_plan : (problem : Problem) (node : TreeNode) (paths plan : List (List ℕ)) → length paths ≡ length problem.inst.starts → ((i : ℕ) → i < length problem.inst.starts → OwnAt problem node i (path_of paths i)) → problem.bound < plan_cost paths → ¬ HasPlan problem node plan
dear_plan problem node paths plan n own dear has =
    let same = same_paths problem node plan paths has.agents n has.own own in
    omega (arith, dear, has.within, ap plan_cost same)

-- whether a node is in cost
pub dec_in_cost : (problem : Problem) (node : TreeNode) → Dec (InCost problem node)
dec_in_cost problem node =
    ⊎_elim (λ w. within w.0 w.1 w.2) (λ n. no (λ w. n.2 (path_of w.0 n.0) (w.1.own n.0 n.1)))
    (build_or [] (length problem.inst.starts) (OwnAt problem node) (λ i. ⊎_elim inl (λ n. inr (λ p h. n p h.member)) (own_at problem node i)))
  where
    within : (plan : List (List ℕ)) → length plan ≡ length problem.inst.starts →
        ((i : ℕ) → i < length problem.inst.starts → OwnAt problem node i (path_of plan i)) → Dec (InCost problem node)
    within plan n own =
        dec_map (λ h. (plan, record { agents = n; own = own; within = h }))
        (λ w. subst (λ p. plan_cost p ≤ problem.bound) (same_paths problem node w.0 plan w.1.agents n w.1.own own) w.1.within) (dec_le (plan_cost plan) problem.bound)
