-- From a search for the agent of one side of a node's conflict to that side of the tree.
use Rattle.mapf_tree.proofs.Prelude.{◌≡◌, ℕ, ◌+◌, ◌<◌, ◌≤◌, List, [], ◌∷◌, ◌++◌, length, get_or, set, Option, Some, None, option_map, subst, subst₂, sym, ap, ◌∙◌, ⊎_elim, arith, get_or-set_same, get_or-set_other, sum_by-set, get_or-le-sum_by, own_path, own_set, none_set, set_cases}
use Rattle.std.proofs.lemmas.List.{length-set}
use Rattle.mapf_tree.specs.Prelude.{Grid, Conflict, cost, IsFirstConflict, path_of, plan_cost, Constraint, IsOwnPath, Side, Problem, IsOwnPathOf, TreeNode, HasPlan, side, side_of, agent_on, constraint_on, constraints_of, PlannedNode, AreChanges, turned, Node, StandsFor, IsConflictOf, IsSameSet, IsSide, IsOwn, IsOwnWithin, Leaves, NoneIsDearer}
use Rattle.mapf_low.proofs.HigherBounds.{own_by_bound}
use Rattle.mapf_tree.proofs.sides.Branch.{agent_below}
use Rattle.mapf_tree.proofs.finite.Measure.{grown_all}
use Rattle.mapf_tree.proofs.ConstraintSets.{IsWith, with_front, IsWith-cons}
use Rattle.mapf_tree.proofs.Plans.{OwnAt, same_paths}

-- what is searched: a path for agent a under one constraint k more than it had at the node, within what the others leave
pub record IsSought (p : Problem) (node : Node) (a bound : ℕ) (k : Constraint) (more : List Constraint) : Type 0 where
  pub after : IsWith k (get_or node.constraints a []) more
  pub leaves : Leaves p node.plan a bound

-- an own path is that of the set of constraints
IsOwn-set : (p : Problem) (bound i : ℕ) (xs ys : List Constraint) (found : Option (List ℕ)) → IsSameSet xs ys → IsOwnWithin p bound i xs found → IsOwnWithin p bound i ys found
IsOwn-set p bound i xs ys None same none = none_set _ _ _ _ xs ys same none
IsOwn-set p bound i xs ys (Some path) same own = own_set _ _ _ _ xs ys path same own

-- the own path by a bound is that by every lower bound that it keeps
pub own_within_lower : (g : Grid) (cs : List Constraint) (lower bound start goal : ℕ) (q : List ℕ) → lower ≤ bound → cost q ≤ lower → IsOwnPath g start goal bound cs q → IsOwnPath g start goal lower cs q
own_within_lower g cs lower bound start goal q l within own = record {
  member = record { path = own.member.path; within = within; obeys = own.member.obeys };
  least = λ y a. own.least y (record { path = a.path; within = omega (arith, l, a.within); obeys = a.obeys });
}

-- no plan of a node has a dearer path than the other agents leave of the bound
pub none_is_dearer : NoneIsDearer
none_is_dearer p pair plan i bound has leaves = omega (arith, leaves, has.within)

-- with a path within what the others leave, the plan is within the bound
pub within_bound : (p : Problem) (plan : List (List ℕ)) (a bound : ℕ) (more : List Constraint) (path : List ℕ) → a < length plan → Leaves p plan a bound → IsOwnWithin p bound a more (Some path) →
    plan_cost (set plan a path) ≤ p.bound
within_bound p plan a bound more path inside leaves own = omega (arith, sum_by-set cost plan a path [] inside, leaves, own.member.within)

module _ (p : Problem) (node : Node) (m : PlannedNode) (c : Conflict) (s : Side) (shows : StandsFor p node m) (is : node.conflict ≡ Some c) where
  -- the node branches on its plan's first conflict
  first : IsFirstConflict p.rule m.1 c
  first =
      let own : IsConflictOf p.rule node.plan (Some c) = subst (IsConflictOf p.rule node.plan) is shows.conflict in
      subst (λ plan. IsFirstConflict p.rule plan c) shows.plan own

  -- the side's agent is one of the agents
  pub agent_inside : agent_on c s < length p.inst.starts
  agent_inside = subst (λ n. agent_on c s < n) shows.member.plan.agents (agent_below p.rule m.1 c s first.member)

  -- the node on this side
  abbrev there : TreeNode
  there = side_of m.0 c s

  -- the set that the agent has on this side
  set_there : (more : List Constraint) → IsWith (constraint_on c s) (get_or node.constraints (agent_on c s) []) more → IsSameSet more (constraints_of there (agent_on c s))
  set_there more after =
      let in_pair : agent_on c s < length m.0.constraints = omega (arith, agent_inside, (grown_all p m.0 shows.member.inside).agents) in
      subst (IsSameSet more) (sym (get_or-set_same m.0.constraints (agent_on c s) (constraint_on c s ∷ constraints_of m.0 (agent_on c s)) [] in_pair))
      (IsWith-cons (constraint_on c s) (constraints_of m.0 (agent_on c s)) (get_or node.constraints (agent_on c s) []) more (shows.sets (agent_on c s) agent_inside) after)

  -- the side's agent has a path in the node's plan
  pub in_plan : agent_on c s < length node.plan
  in_plan = subst (λ n. agent_on c s < n) (sym (ap length shows.plan ∙ shows.member.plan.agents)) agent_inside

  -- with that path the plan has the own path of every agent on this side
  own_there : (path : List ℕ) → IsOwn p (agent_on c s) (constraints_of there (agent_on c s)) (Some path) → (i : ℕ) → i < length p.inst.starts → OwnAt p there i (path_of (set node.plan (agent_on c s) path) i)
  own_there path own i h =
      let inside : i < length node.plan = subst (λ n. i < n) (sym (ap length shows.plan ∙ shows.member.plan.agents)) h in
      set_cases (OwnAt p there i) node.plan (agent_on c s) i path [] inside (λ e. subst (λ j. OwnAt p there j path) e own)
      (λ ne. subst₂ (λ cs q. IsOwnPathOf p i cs q) (sym (get_or-set_other m.0.constraints (agent_on c s) i _ [] (λ e. ne (sym e))))
      (ap (λ l. path_of l i) (sym shows.plan)) (shows.member.plan.own i h))

  module _ (bound : ℕ) (more : List Constraint) (sought : IsSought p node (agent_on c s) bound (constraint_on c s) more) where
    -- what the others leave is at most the bound
    bound_le : bound ≤ p.bound
    bound_le = omega (arith, sought.leaves, get_or-le-sum_by cost node.plan (agent_on c s) [] in_plan)

    -- the plan with the agent's new path, and what it costs
    abbrev plan_with : List ℕ → List (List ℕ)
    plan_with path = set node.plan (agent_on c s) path

    costs_with : (path : List ℕ) → plan_cost (plan_with path) + bound ≡ p.bound + cost path
    costs_with path =
        let changed : plan_cost (plan_with path) + cost (path_of node.plan (agent_on c s)) ≡ plan_cost node.plan + cost path = sum_by-set cost node.plan (agent_on c s) path [] in_plan in
        omega (arith, changed, sought.leaves)

    -- it has as many paths as there are agents
    agents_with : (path : List ℕ) → length (plan_with path) ≡ length p.inst.starts
    agents_with path = length-set node.plan (agent_on c s) path ∙ ap length shows.plan ∙ shows.member.plan.agents

    -- the set that the agent has on this side, searched, gives the own path there
    found_there : (found : Option (List ℕ)) → IsOwnWithin p bound (agent_on c s) more found → IsOwnWithin p bound (agent_on c s) (constraints_of there (agent_on c s)) found
    found_there found own = IsOwn-set p bound (agent_on c s) more (constraints_of there (agent_on c s)) found (set_there more sought.after) own

    -- on this side the other agents have the paths that they had, so the agent's path is its own within what they leave
    own_within_in : (plan : List (List ℕ)) → HasPlan p there plan → IsOwnWithin p bound (agent_on c s) (constraints_of there (agent_on c s)) (Some (path_of plan (agent_on c s)))
    own_within_in plan has = own_within_lower _ _ bound p.bound _ _ path bound_le within own
      where
        path : List ℕ
        path = path_of plan (agent_on c s)

        own : OwnAt p there (agent_on c s) path
        own = has.own (agent_on c s) agent_inside

        same : plan ≡ plan_with path
        same = same_paths p there plan (plan_with path) has.agents (agents_with path) has.own (own_there path own)

        within : cost path ≤ bound
        within = omega (arith, costs_with path, ap plan_cost same, has.within)

    -- no path for the agent within what the others leave of the bound: the side isn't in the tree
    pub no_side : IsOwnWithin p bound (agent_on c s) more None → IsSide p m c s None
    no_side none plan has = found_there None none (path_of plan (agent_on c s)) (own_within_in plan has).member

    -- with one the plan has each agent's own path on this side, and costs at most the bound
    has_side : (path : List ℕ) → IsOwnWithin p bound (agent_on c s) more (Some path) → HasPlan p there (plan_with path)
    has_side path own = record {
      agents = agents_with path;
      own = own_there path (own_by_bound _ _ bound p.bound _ _ path bound_le (found_there (Some path) own));
      within = omega (arith, costs_with path, own.member.within);
    }

    -- so the new node stands for the side
    pub side_stands : (path : List ℕ) → IsOwnWithin p bound (agent_on c s) more (Some path) → (new : Node) → new.name ≡ node.name ++ s ∷ [] →
        new.changes ≡ node.changes ++ record { agent = agent_on c s; constraint = constraint_on c s; path = path } ∷ [] →
        new.constraints ≡ set node.constraints (agent_on c s) (constraint_on c s ∷ get_or node.constraints (agent_on c s) []) → new.plan ≡ plan_with path → new.rule ≡ node.rule →
        IsConflictOf node.rule (plan_with path) new.conflict → IsSide p m c s (Some new)
    side_stands path own new name changes constraints stand rule conflict = (
      plan_with path,
      record {
        member = record { inside = side s shows.member.inside shows.member.plan first has; plan = has };
        name = name ∙ ap (λ l. l ++ s ∷ []) shows.name;
        changes = subst (AreChanges p there (plan_with path)) (sym (changes ∙ ap (λ q. node.changes ++ record { agent = agent_on c s; constraint = constraint_on c s; path = q } ∷ []) now)) (turned s shows.changes first has);
        plan = stand;
        agents = ap length constraints ∙ length-set node.constraints (agent_on c s) _ ∙ shows.agents;
        sets = λ i h. subst (λ l. IsSameSet (get_or l i []) (constraints_of there i)) (sym constraints) (sets i h);
        rule = rule ∙ shows.rule;
        conflict = subst₂ (λ r q. IsConflictOf r q new.conflict) shows.rule (sym stand) conflict;
      },
    )
      where
        has : HasPlan p there (plan_with path)
        has = has_side path own

        -- the path of this turn's change
        now : path ≡ path_of (plan_with path) (agent_on c s)
        now = sym (get_or-set_same node.plan (agent_on c s) path [] in_plan)

        -- the set that the agent has now
        own_set : List Constraint
        own_set = constraint_on c s ∷ get_or node.constraints (agent_on c s) []

        sets : (i : ℕ) → i < length p.inst.starts → IsSameSet (get_or (set node.constraints (agent_on c s) own_set) i []) (constraints_of there i)
        sets i h =
            set_cases (λ l. IsSameSet l (constraints_of there i)) node.constraints (agent_on c s) i own_set [] (omega (arith, h, shows.agents))
            (λ e. subst (λ j. IsSameSet own_set (constraints_of there j)) e (set_there own_set (with_front (constraint_on c s) (get_or node.constraints (agent_on c s) []))))
            (λ ne. subst (IsSameSet (get_or node.constraints i [])) (sym (get_or-set_other m.0.constraints (agent_on c s) i _ [] (λ e. ne (sym e)))) (shows.sets i h))

    -- the other way round: where a side is in the tree, it has its agent's own path, and where it isn't, there is none
    pub own_of_side : (found : Option Node) → IsSide p m c s found → IsOwnWithin p bound (agent_on c s) more (option_map (λ n. path_of n.plan (agent_on c s)) found)
    own_of_side (Some new) has =
        subst (λ l. IsOwnWithin p bound (agent_on c s) more (Some (path_of l (agent_on c s)))) (sym has.1.plan)
        (IsOwn-set p bound (agent_on c s) (constraints_of there (agent_on c s)) more (Some (path_of has.0 (agent_on c s)))
        (λ x. let same = set_there more sought.after x in (same.1, same.0)) (own_within_in has.0 has.1.member.plan))
    own_of_side None none = λ path allowed.
        ⊎_elim (λ w. none (plan_with w.0) (has_side w.0 w.1)) (λ n. n path allowed)
        (own_path p.inst.grid (get_or p.inst.starts (agent_on c s) 0) (get_or p.inst.goals (agent_on c s) 0) bound more)
