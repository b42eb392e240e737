-- From the own paths of all agents to the root of the tree.
use Rattle.mapf_tree.proofs.Prelude.{◌≡◌, ◌↔◌, ℕ, ◌<◌, ◌≤◌, ◌+◌, List, [], ◌∷◌, ◌++◌, length, get_or, replicate, Some, None, subst, sym, ap, ◌∙◌, arith, Contains, get_or-replicate, length-replicate, length_push, get_or_append_left, get_or_push, below_more}
use Rattle.mapf_tree.specs.Prelude.{path_of, plan_cost, Constraint, Problem, IsOwnPathOf, HasPlan, root, root_of, constraints_of, AreChanges, unchanged, Node, IsConflictOf, IsRoot, IsOwn, AreRootPaths}
use Rattle.mapf_tree.proofs.Plans.{OwnAt, dear_plan}

-- no agent has a constraint at the root
pub free_at_root : (problem : Problem) (i : ℕ) → i < length problem.inst.starts → constraints_of (root_of problem) i ≡ []
free_at_root problem i h = get_or-replicate (length problem.inst.starts) i [] [] h

-- the agents' own paths under no constraints are those of the root
root_own : (p : Problem) (paths : List (List ℕ)) → AreRootPaths p paths → (i : ℕ) → i < length p.inst.starts → OwnAt p (root_of p) i (path_of paths i)
root_own p paths are i h =
    subst (λ cs. IsOwnPathOf p i cs (path_of paths i)) (sym (free_at_root p i h)) (are.own i h)

-- if they cost too much, the root has no plan
pub no_root : (p : Problem) (paths : List (List ℕ)) → AreRootPaths p paths → p.bound < plan_cost paths → IsRoot p None
no_root p paths are dear plan has =
    dear_plan p (root_of p) paths plan are.each (root_own p paths are) dear has

-- and if not, they are its plan
pub root_stands : (p : Problem) (node : Node) (paths : List (List ℕ)) → AreRootPaths p paths → plan_cost paths ≤ p.bound →
    node.name ≡ [] → node.changes ≡ [] → node.constraints ≡ replicate (length p.inst.starts) [] → node.plan ≡ paths → node.rule ≡ p.rule → IsConflictOf p.rule paths node.conflict → IsRoot p (Some node)
root_stands p node paths are within name changes sets plan rule conflict = (
  paths,
  record {
    member = record { inside = root has; plan = has };
    name = name;
    changes = subst (AreChanges p (root_of p) paths) (sym changes) (unchanged has);
    plan = plan;
    agents = ap length sets ∙ length-replicate (length p.inst.starts) [];
    sets = λ i h c. subst (λ xs. Contains (get_or xs i []) c ↔ Contains (constraints_of (root_of p) i) c) (sym sets) ((λ k. k), (λ k. k));
    rule = rule;
    conflict = subst (λ q. IsConflictOf p.rule q node.conflict) (sym plan) conflict;
  },
)
  where
    has : HasPlan p (root_of p) paths
    has = record { agents = are.each; own = root_own p paths are; within = within }

-- one own path more
pub own_more : (p : Problem) (paths more : List (List ℕ)) (cs : List Constraint) (n : ℕ) (path : List ℕ) → cs ≡ [] → length paths ≡ n →
    ((i : ℕ) → i < n → IsOwnPathOf p i [] (path_of paths i)) →
    more ≡ paths ++ path ∷ [] → IsOwn p n cs (Some path) →
    (length more ≡ n + 1) × ((i : ℕ) → i < n + 1 → IsOwnPathOf p i [] (path_of more i))
own_more p paths more cs n path free count own is last =
    (ap length is ∙ length_push paths path ∙ ap (λ k. k + 1) count, below_more (λ i. Own i (path_of more i)) n earlier here)
  where
    Own : ℕ → List ℕ → Type 0
    Own i q = IsOwnPathOf p i [] q

    earlier : (i : ℕ) → i < n → Own i (path_of more i)
    earlier i h =
        let inside : i < length paths = omega (arith, h, count) in
        let same : path_of more i ≡ path_of paths i = ap (λ l. get_or l i []) is ∙ get_or_append_left paths (path ∷ []) [] i inside in
        subst (Own i) (sym same) (own i h)

    here : Own n (path_of more n)
    here =
        let same : path_of more n ≡ path = ap (λ l. get_or l n []) is ∙ get_or_push paths path [] n count in
        subst (Own n) (sym same) (subst (λ l. IsOwnPathOf p n l path) free last)
