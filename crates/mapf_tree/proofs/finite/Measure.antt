-- Each side's constraint is new, and there are so many constraints at most: so no name is long.
use Rattle.mapf_tree.proofs.Prelude.{◌≡◌, ◌≢◌, ℕ, ◌<◌, ◌≤◌, ◌+◌, ◌-◌, ◌*◌, List, [], ◌∷◌, length, get_or, subst, subst₂, sym, ◌∙◌, arith, length-set, length-append, All, Contains, length-replicate, get_or-replicate, All-nil, All-cons, All-contains, All-from_recursion, All-from_get_or, set_cases, first_early}
use Rattle.mapf_tree.specs.Prelude.{sum_by, IsFree, Next, IsPath, Conflict, Rule, IsConflict, IsFirstConflict, path_of, place, conflict_time, Constraint, Breaks, Obeys, Problem, Side, Left, Right, TreeNode, HasPlan, InTree, root, side, side_of, constraints_of, constraint_on, agent_on, root_of, ConstraintIsNew, ConstraintIsEarly, HoldsGrid}
use Rattle.std.proofs.lemmas.List.Sums.{sum_by-set, sum_by-le}
use Rattle.std.proofs.lemmas.List.Folds.{sum_by-replicate}
use Rattle.mapf_plan.specs.declared.conflict.Conflict.TheVariants.{Vertex, Swapping, Following}
use Rattle.mapf_plan.proofs.Paths.{place_free, moves}
use Rattle.mapf_tree.proofs.sides.Branch.{agent_below}
use Rattle.mapf_tree.proofs.sides.Followers.{parts, part_early}
use Rattle.mapf_tree.proofs.finite.Distinct.{Distinct, distinct_le}
use Rattle.mapf_tree.proofs.Plans.{plan_costs}
use Rattle.mapf_tree.proofs.finite.Universe.{universe, Fits, Contains-universe, length-universe, fits_early, cells_of, edges_of, holds_all}

-- what holds along the tree
pub record Grown (problem : Problem) (node : TreeNode) : Type 0 where
  pub agents : length node.constraints ≡ length problem.inst.starts
  pub distinct : (i : ℕ) → i < length problem.inst.starts → Distinct (constraints_of node i)
  pub fits : (i : ℕ) → i < length problem.inst.starts → All (Fits problem.inst.grid problem.bound) (constraints_of node i)
  pub depth : length node.name ≡ sum_by (λ cs. length cs) node.constraints

-- the root has no constraint
grown_root : (problem : Problem) → Grown problem (root_of problem)
grown_root problem =
    record {
      agents = length-replicate (length problem.inst.starts) [];
      distinct = λ i h. subst (λ cs. Distinct cs) (sym (none i h)) tt;
      fits = λ i h. subst (All (Fits problem.inst.grid problem.bound)) (sym (none i h)) (All-nil (Fits problem.inst.grid problem.bound));
      depth = sym (sum_by-replicate (λ cs. length cs) (length problem.inst.starts) [] ∙ zeros);
    }
  where
    none : (i : ℕ) → i < length problem.inst.starts → constraints_of (root_of problem) i ≡ []
    none i h = get_or-replicate (length problem.inst.starts) i [] [] h

    zeros : length problem.inst.starts * 0 ≡ 0
    zeros = omega arith

-- the own path broke the side's constraint
broke : (rule : Rule) (plan : List (List ℕ)) (c : Conflict) (s : Side) → IsConflict rule plan c → Breaks (path_of plan (agent_on c s)) (constraint_on c s)
broke rule plan (Vertex t i j v) Left h = h.2
broke rule plan (Vertex t i j v) Right h = h.3
broke rule plan (Swapping t i j u v) Left h = (h.2, h.4, h.5)
broke rule plan (Swapping t i j u v) Right h = (h.2, h.6, h.7)
broke rule plan (Following t i j v) Left h = (parts plan i j v t h.1 h.5 h.6).0
broke rule plan (Following t i j v) Right h = (parts plan i j v t h.1 h.5 h.6).1

-- so it is new to the agent, if that's path obeys what it is forbidden
pub broken_is_new : (problem : Problem) (node : TreeNode) (plan : List (List ℕ)) (c : Conflict) (s : Side) → IsConflict problem.rule plan c → Obeys (constraints_of node (agent_on c s)) (path_of plan (agent_on c s)) → ¬ Contains (constraints_of node (agent_on c s)) (constraint_on c s)
broken_is_new problem node plan c s is obeys i =
    let Kept : Constraint → Type 0 = λ x. ¬ Breaks (path_of plan (agent_on c s)) x in
    All-contains Kept (constraints_of node (agent_on c s)) (constraint_on c s) (All-from_recursion Kept (constraints_of node (agent_on c s)) obeys) i (broke problem.rule plan c s is)

-- as own paths do
pub constraint_is_new : ConstraintIsNew
constraint_is_new problem node plan c s has is =
    broken_is_new problem node plan c s is (has.own (agent_on c s) (subst (λ k. agent_on c s < k) has.agents (agent_below problem.rule plan c s is))).member.obeys

-- that of a conflict up to the bound is on cells of the grid, and at most at the bound
pub conflict_fits : (problem : Problem) (plan : List (List ℕ)) (c : Conflict) (s : Side) → length plan ≡ length problem.inst.starts →
    ((i : ℕ) → i < length problem.inst.starts → IsPath problem.inst.grid (get_or problem.inst.starts i 0) (get_or problem.inst.goals i 0) (path_of plan i)) →
    IsConflict problem.rule plan c → conflict_time c ≤ problem.bound → Fits problem.inst.grid problem.bound (constraint_on c s)
conflict_fits problem plan c s agents paths is early = go c s is early
  where
    path : (i : ℕ) → i < length plan → IsPath problem.inst.grid (get_or problem.inst.starts i 0) (get_or problem.inst.goals i 0) (path_of plan i)
    path i h = paths i (subst (λ k. i < k) agents h)

    cell : (i t v : ℕ) → i < length plan → place plan i t ≡ v → IsFree problem.inst.grid v
    cell i t v h e = subst (λ k. IsFree problem.inst.grid k) e (place_free problem.inst.grid _ _ (path_of plan i) (path i h) t)

    edge : (i t u v : ℕ) → i < length plan → 0 < t → place plan i (t - 1) ≡ u → place plan i t ≡ v → u ≢ v → Next problem.inst.grid u v
    edge i t u v h l eu ev ne =
        let next = moves problem.inst.grid _ _ (path_of plan i) (path i h) (t - 1) t (omega (arith, l)) (λ e. ne (sym eu ∙ e ∙ ev)) in
        subst₂ (λ a b. Next problem.inst.grid a b) eu ev next

    go : (c : Conflict) (s : Side) → IsConflict problem.rule plan c → conflict_time c ≤ problem.bound → Fits problem.inst.grid problem.bound (constraint_on c s)
    go (Vertex t i j v) s h l = (cell j t v h.1 h.3, l)
    go (Swapping t i j u v) Left h l = (edge i t u v (omega (arith, h.0, h.1)) h.2 h.4 h.5 h.3, h.3, l)
    go (Swapping t i j u v) Right h l = (edge j t v u h.1 h.2 h.6 h.7 (λ e. h.3 (sym e)), (λ e. h.3 (sym e)), l)
    go (Following t i j v) s h l = (cell i t v h.2 h.5, part_early _ t problem.bound l)

-- and so it is of the first conflict
side_fits : (problem : Problem) (node : TreeNode) (plan : List (List ℕ)) (c : Conflict) (s : Side) → HasPlan problem node plan → IsFirstConflict problem.rule plan c → Fits problem.inst.grid problem.bound (constraint_on c s)
side_fits problem node plan c s has first =
    conflict_fits problem plan c s has.agents (λ i h. (has.own i h).member.path) first.member (first_early problem.rule plan problem.bound (plan_costs problem node plan has) c first)

-- a side has one constraint more, and all that held of the node holds of it
grown_side : (problem : Problem) (node : TreeNode) (plan : List (List ℕ)) (c : Conflict) (s : Side) → Grown problem node → HasPlan problem node plan → IsFirstConflict problem.rule plan c → Grown problem (side_of node c s)
grown_side problem node plan c s grown has first =
    let Fit = Fits problem.inst.grid problem.bound in
    record {
      agents = length-set node.constraints a _ ∙ grown.agents;
      distinct = λ i h.
          set_cases (λ cs. Distinct cs) node.constraints a i more [] (omega (arith, h, grown.agents))
          (λ _. (constraint_is_new problem node plan c s has first.member, grown.distinct a within)) (λ _. grown.distinct i h);
      fits = λ i h.
          set_cases (All Fit) node.constraints a i more [] (omega (arith, h, grown.agents))
          (λ _. All-cons Fit (constraint_on c s) (constraints_of node a) (side_fits problem node plan c s has first) (grown.fits a within)) (λ _. grown.fits i h);
      depth = let e = sum_by-set (λ cs. length cs) node.constraints a more [] inside in omega (arith, e, length-append node.name (s ∷ []), grown.depth);
    }
  where
    a : ℕ
    a = agent_on c s

    more : List Constraint
    more = constraint_on c s ∷ constraints_of node (agent_on c s)

    within : agent_on c s < length problem.inst.starts
    within = subst (λ k. agent_on c s < k) has.agents (agent_below problem.rule plan c s first.member)

    inside : agent_on c s < length node.constraints
    inside = subst (λ k. agent_on c s < k) (sym grown.agents) within

-- so it holds of each node of the tree
pub grown_all : (problem : Problem) (node : TreeNode) → InTree problem node → Grown problem node
grown_all problem node (root has) = grown_root problem
grown_all problem _ (side {node = p} {plan = q} {c = c} s inside has first has') = grown_side problem p q c s (grown_all problem p inside) has first

-- no name is longer than there are constraints for all agents
pub depth_le : (problem : Problem) (cells : List ℕ) (edges : List (ℕ × ℕ)) → HoldsGrid problem.inst.grid cells edges → (node : TreeNode) → Grown problem node → length node.name ≤ length problem.inst.starts * ((problem.bound + 1) * (length cells + length edges))
depth_le problem cells edges holds node g =
    let m : ℕ = (problem.bound + 1) * (length cells + length edges) in
    let all = All-from_get_or (λ cs. length cs ≤ m) node.constraints [] (λ i h. one i (subst (λ k. i < k) g.agents h)) in
    let sums = sum_by-le (λ cs. length cs) m node.constraints all in
    subst (λ k. length node.name ≤ k * m) g.agents (subst (λ k. k ≤ length node.constraints * m) (sym g.depth) sums)
  where
    one : (i : ℕ) → i < length problem.inst.starts → length (constraints_of node i) ≤ (problem.bound + 1) * (length cells + length edges)
    one i h =
        subst (λ k. length (constraints_of node i) ≤ k) (length-universe cells edges problem.bound)
        (distinct_le (constraints_of node i) (universe cells edges problem.bound) (g.distinct i h)
        (λ c k. Contains-universe problem.inst.grid cells edges problem.bound holds c (All-contains (Fits problem.inst.grid problem.bound) (constraints_of node i) c (g.fits i h) k)))

-- some number that no depth exceeds
pub most : Problem → ℕ
most problem = length problem.inst.starts * ((problem.bound + 1) * (length (cells_of problem.inst.grid) + length (edges_of problem.inst.grid)))

-- it is such a number
pub depth_most : (problem : Problem) (node : TreeNode) → Grown problem node → length node.name ≤ most problem
unfolding most
depth_most problem node g = depth_le problem (cells_of problem.inst.grid) (edges_of problem.inst.grid) (holds_all problem.inst.grid) node g

-- a conflict that a plan branches on is at most at the bound
pub constraint_is_early : ConstraintIsEarly
constraint_is_early problem node plan c s has first = fits_early problem.inst.grid problem.bound (constraint_on c s) (side_fits problem node plan c s has first)
