-- The sides of any conflict of a node's plan.
use Rattle.std.proofs.Common.{◌≡◌, ◌⊎◌, ◌↔◌, ℕ, ◌+◌, ◌<◌, ◌≤◌, max, List, [], length, get_or, set, false, true≢false, Option, Some, None, inl, inr, subst, subst₂, sym, refl, ap, ◌∙◌, ⊎_elim, arith, Contains, length-set}
use Rattle.std.proofs.lemmas.List.{get_or_default}
use Rattle.std.proofs.lemmas.List.Sums.{sum_by-set, get_or-le-sum_by}
use Rattle.std.specs.List.{sum_by}
use Rattle.mapf_grid.proofs.Lists.{set_cases}
use Rattle.mapf_plan.specs.declared.conflict.Conflict.{Conflict}
use Rattle.mapf_plan.specs.Path.{cost, IsPath}
use Rattle.mapf_plan.specs.Plan.{path_of, plan_cost}
use Rattle.mapf_low.specs.declared.constraint.Constraint.{Constraint}
use Rattle.mapf_low.specs.Constraints.{Obeys, Breaks}
use Rattle.mapf_low.proofs.Sets.{obeys_set, AllByRecursion-fewer}
use Rattle.mapf_tree.specs.declared.tree.side.Side.{Side}
use Rattle.mapf_tree.specs.declared.tree.side.Side.TheVariants.{Left, Right}
use Rattle.mapf_tree.specs.Problem.{Problem}
use Rattle.mapf_tree.specs.Tree.{agent_on, constraint_on, side_of, IsAllowedFor}
use Rattle.mapf_tree.specs.Laws.{ObeysNode}
use Rattle.mapf_tree.proofs.sides.Branch.{agent_below, obeys_one_side}
use Rattle.mapf_optimum.specs.declared.group_bound.GroupBound.{GroupBound}
use Rattle.mapf_optimum.specs.FreeTree.{FreeNode, unnamed, IsFreeNode, IsCandidate, IsChoice, IsGroup, IsLeastPathOf, IsLeastCostOf, AreGroupBounds, AreLeastCosts, HaveAllowedPaths, paths_in}
use Rattle.mapf_optimum.specs.FreeSearch.{AreSideSets, IsSideOf, IsSame, IsLeastWithin, IsLeftFor}
use Rattle.mapf_optimum.specs.Groups.{AreOf}
use Rattle.mapf_optimum.specs.Laws.{HasASide}
use Rattle.mapf_optimum.proofs.LeastPaths.{costs_below, takes_allowed, least_by_bound}
use Rattle.mapf_optimum.proofs.Costs.{costs_at_most, number_at}
use Rattle.mapf_optimum.proofs.SideSets.{side_agents, side_own, side_other, obeys_new, obeys_old}

-- groups' bounds hold of fewer candidates, too
pub bounds_stay : (problem : Problem) (old new : List (List Constraint)) (groups kept : List GroupBound) → ((plan : List (List ℕ)) → IsCandidate problem new plan → IsCandidate problem old plan) →
    AreGroupBounds problem old groups → AreOf groups kept → AreGroupBounds problem new kept
bounds_stay problem old new groups kept fewer all of g i =
    let w = of g i in
    let b = all w.0 w.1 in
    record {
      group = subst (IsGroup (length problem.inst.starts)) w.2 b.group;
      below = λ plan k. omega (arith, w.3, ap (λ (agents : List ℕ). plan_cost (paths_in plan agents)) w.2, b.below plan (fewer plan k));
    }

module _ (problem : Problem) (node : FreeNode) (c : Conflict) (s : Side) (is : IsFreeNode problem node) (choice : IsChoice problem node.plan c) where
  -- the side's agent has a path in the node's plan
  pub in_plan : agent_on c s < length node.plan
  in_plan = agent_below problem.rule node.plan c s choice.0

  -- it is one of the agents
  pub agent_inside : agent_on c s < length problem.inst.starts
  agent_inside = omega (arith, in_plan, is.paths.agents)

  -- and has a set
  pub in_sets : agent_on c s < length node.sets
  in_sets = omega (arith, agent_inside, is.agents)

  -- and a least cost
  pub in_costs : agent_on c s < length node.costs
  in_costs = omega (arith, agent_inside, is.costs.agents)

  module _ (new : List (List Constraint)) (are : AreSideSets node.sets c s new) where
    -- a candidate that obeys that side of the constraint tree is one under the side's sets
    pub candidate_there : (plan : List (List ℕ)) → IsCandidate problem node.sets plan → ObeysNode problem (side_of (unnamed node.sets) c s) plan → IsCandidate problem new plan
    candidate_there plan candidate obeys = record { valid = candidate.valid; within = candidate.within; obeys = obeys_new problem node.sets new c s are in_sets plan is.agents obeys }

    -- a candidate under the side's sets is one of the node's
    pub candidate_here : (plan : List (List ℕ)) → IsCandidate problem new plan → IsCandidate problem node.sets plan
    candidate_here plan candidate = record { valid = candidate.valid; within = candidate.within; obeys = obeys_old problem node.sets new c s are in_sets plan is.agents candidate.obeys }

    -- in it the side's agent pays no more than what the others' least paths leave
    pub pays : (bound : ℕ) → IsLeftFor problem node.costs (agent_on c s) bound → (other : List (List ℕ)) → IsCandidate problem new other → cost (path_of other (agent_on c s)) ≤ bound
    pays bound left other candidate =
        omega (arith, sum_by-set (λ k. k) node.costs (agent_on c s) (cost (path_of other (agent_on c s))) 0 in_costs, left, candidate.within, no_more)
      where
        each : (i : ℕ) → i < length node.costs → get_or (set node.costs (agent_on c s) (cost (path_of other (agent_on c s)))) i 0 ≤ cost (path_of other i)
        each i h =
            set_cases (λ k. k ≤ cost (path_of other i)) node.costs (agent_on c s) i (cost (path_of other (agent_on c s))) 0 h
            (λ e. subst (λ k. cost (path_of other (agent_on c s)) ≤ cost (path_of other k)) e (omega arith))
            (λ _.
            let l : i < length problem.inst.starts = subst (λ n. i < n) is.costs.agents h in
            let w = is.costs.each i l in
            omega (arith, w.2, w.1.least (path_of other i) (takes_allowed problem node.sets other (candidate_here other candidate) i l)))

        no_more : sum_by (λ k. k) (set node.costs (agent_on c s) (cost (path_of other (agent_on c s)))) ≤ plan_cost other
        no_more =
            costs_at_most (set node.costs (agent_on c s) (cost (path_of other (agent_on c s)))) other (length-set node.costs (agent_on c s) _ ∙ is.costs.agents ∙ sym candidate.valid.agents)
            (λ i h. each i (subst (λ n. i < n) (length-set node.costs (agent_on c s) (cost (path_of other (agent_on c s)))) h))

    -- no path for the agent within what the others leave: the side has no candidate
    pub no_candidate : (bound : ℕ) → IsLeftFor problem node.costs (agent_on c s) bound → IsLeastWithin problem bound (agent_on c s) are.0 None → (other : List (List ℕ)) → ¬ IsCandidate problem new other
    no_candidate bound left none other candidate =
        none (path_of other (agent_on c s))
        (record {
          path = candidate.valid.paths (agent_on c s) agent_inside;
          within = pays bound left other candidate;
          obeys = subst (λ cs. Obeys cs (path_of other (agent_on c s))) (side_own problem node.sets new c s are in_sets) (candidate.obeys (agent_on c s) agent_inside);
        })

    module _ (bound : ℕ) (path : List ℕ) (left : IsLeftFor problem node.costs (agent_on c s) bound) (least : IsLeastWithin problem bound (agent_on c s) are.0 (Some path)) where
      -- what least paths cost with the path
      changed : sum_by (λ k. k) (set node.costs (agent_on c s) (cost path)) + get_or node.costs (agent_on c s) 0 ≡ sum_by (λ k. k) node.costs + cost path
      changed = sum_by-set (λ k. k) node.costs (agent_on c s) (cost path) 0 in_costs

      small : bound ≤ problem.bound
      small = omega (arith, left, get_or-le-sum_by (λ k. k) node.costs (agent_on c s) 0 in_costs)

      now : IsLeastPathOf problem (agent_on c s) (get_or new (agent_on c s) []) path
      now = subst (λ cs. IsLeastPathOf problem (agent_on c s) cs path) (sym (side_own problem node.sets new c s are in_sets)) (least_by_bound problem bound (agent_on c s) are.0 path small least)

      -- with it the side has least costs
      has_costs : AreLeastCosts problem new (set node.costs (agent_on c s) (cost path))
      has_costs = record {
        agents = length-set node.costs (agent_on c s) (cost path) ∙ is.costs.agents;
        each = λ i h.
            set_cases (λ k. IsLeastCostOf problem i (get_or new i []) k) node.costs (agent_on c s) i (cost path) 0 (omega (arith, h, is.costs.agents))
            (λ e. subst (λ j. IsLeastCostOf problem j (get_or new j []) (cost path)) e (path, now, refl))
            (λ ne. subst (λ cs. IsLeastCostOf problem i cs (get_or node.costs i 0)) (sym (side_other problem node.sets new c s are in_sets i ne)) (is.costs.each i h));
      }

      -- and paths
      has_paths : HaveAllowedPaths problem new (set node.plan (agent_on c s) path)
      has_paths = record {
        agents = length-set node.plan (agent_on c s) path ∙ is.paths.agents;
        each = λ i h.
            set_cases (λ p. IsAllowedFor problem i (get_or new i []) p) node.plan (agent_on c s) i path [] (omega (arith, h, is.paths.agents))
            (λ e. subst (λ j. IsAllowedFor problem j (get_or new j []) path) e now.allowed)
            (λ ne. subst (λ cs. IsAllowedFor problem i cs (path_of node.plan i)) (sym (side_other problem node.sets new c s are in_sets i ne)) (is.paths.each i h));
      }

      -- and is a node, with the greater one of two lower bounds
      pub is_free : (child : FreeNode) → child.sets ≡ new → child.costs ≡ set node.costs (agent_on c s) (cost path) → child.plan ≡ set node.plan (agent_on c s) path → AreOf node.groups child.groups → child.label ≡ max node.label (sum_by (λ k. k) child.costs) → child.is_bounded ≡ false →
          IsFreeNode problem child
      is_free child sets costs plan groups label fresh = record {
        agents = ap length sets ∙ side_agents problem node.sets new c s are in_sets ∙ is.agents;
        costs = there;
        paths = subst₂ (λ l p. HaveAllowedPaths problem l p) (sym sets) (sym plan) has_paths;
        groups = bounds_stay problem node.sets child.sets node.groups child.groups (λ other candidate. candidate_here other (subst (λ l. IsCandidate problem l other) sets candidate)) is.groups groups;
        alone = omega (arith, label);
        dear = λ bounded. absurd (true≢false (sym bounded ∙ fresh));
        within = omega (arith, label, is.within, ap (λ l. sum_by (λ k. k) l) costs, changed, left, least.allowed.within);
        below = λ other candidate.
            omega (arith, label, is.below other (candidate_here other (subst (λ l. IsCandidate problem l other) sets candidate)), costs_below problem child.sets child.costs there other candidate);
      }
        where
          there : AreLeastCosts problem child.sets child.costs
          there = subst₂ (λ l k. AreLeastCosts problem l k) (sym sets) (sym costs) has_costs

-- a valid plan that obeys the node obeys one of its sides
pub has_a_side : HasASide
has_a_side problem node c left right plan is choice is_left is_right candidate =
    ⊎_elim (λ o. inl (candidate_there problem node c Left is choice left is_left plan candidate o)) (λ o. inr (candidate_there problem node c Right is choice right is_right plan candidate o))
    (obeys_one_side problem (unnamed node.sets) node.plan plan c is.agents is.paths.agents choice.0 candidate.valid candidate.obeys)

-- what stands at a place of a list
at_place : (sets : List (List Constraint)) (k : ℕ) (cs : List Constraint) → k < length sets → cs ≡ get_or sets k cs → cs ≡ get_or sets k []
at_place sets k cs inside is = is ∙ get_or_default sets k cs [] inside

-- the agent's set on a side as it is made, from its old one with one constraint more
pub side_made : (problem : Problem) (node : FreeNode) (c : Conflict) (s : Side) → IsFreeNode problem node → IsChoice problem node.plan c → (a : ℕ) (k : Constraint) (inside : List (List Constraint)) (old more : List Constraint) →
    a ≡ agent_on c s → k ≡ constraint_on c s → inside ≡ node.sets → old ≡ get_or inside a old → ((x : Constraint) → Contains more x ↔ ((x ≡ k) ⊎ Contains old x)) →
    (x : Constraint) → Contains more x ↔ ((x ≡ constraint_on c s) ⊎ Contains (get_or node.sets (agent_on c s) []) x)
side_made problem node c s is choice a k inside old more ea ek same here after =
    let there : a < length node.sets = subst (λ j. j < length node.sets) (sym ea) (in_sets problem node c s is choice) in
    subst₂ (λ l o. (x : Constraint) → Contains more x ↔ ((x ≡ l) ⊎ Contains o x)) ek
    (at_place node.sets a old there (subst (λ l. old ≡ get_or l a old) same here) ∙ ap (λ j. get_or node.sets j []) ea) after

-- what the agent's least path costs, as it is read
pub cost_at : (problem : Problem) (node : FreeNode) (c : Conflict) (s : Side) → IsFreeNode problem node → IsChoice problem node.plan c → (a k : ℕ) (inside : List ℕ) →
    a ≡ agent_on c s → k ≡ get_or inside a k → inside ≡ node.costs → k ≡ get_or node.costs (agent_on c s) 0
cost_at problem node c s is choice a k inside ea here same =
    number_at node.costs a k (subst (λ l. k ≡ get_or l a k) same here) (subst (λ j. j < length node.costs) (sym ea) (in_costs problem node c s is choice)) ∙ ap (λ j. get_or node.costs j 0) ea

-- no path that an agent may take under a set: none under another list of it
none_again : (problem : Problem) (bound i : ℕ) (one other : List Constraint) → ((x : Constraint) → Contains one x ↔ Contains other x) → IsLeastWithin problem bound i one None → IsLeastWithin problem bound i other None
none_again problem bound i one other same none path allowed =
    none path (record { path = allowed.path; within = allowed.within; obeys = obeys_set other one path (λ x. ((same x).1, (same x).0)) allowed.obeys })

module _ (problem : Problem) (node : FreeNode) (c : Conflict) (s : Side) (is : IsFreeNode problem node) (choice : IsChoice problem node.plan c) (a bound : ℕ) (more : List Constraint)
    (after : (x : Constraint) → Contains more x ↔ ((x ≡ constraint_on c s) ⊎ Contains (get_or node.sets (agent_on c s) []) x)) (ea : a ≡ agent_on c s) (left : IsLeftFor problem node.costs a bound) where
  -- the side's sets
  made : AreSideSets node.sets c s (set node.sets (agent_on c s) more)
  made = (more, refl, after)

  -- what the others leave
  left_there : IsLeftFor problem node.costs (agent_on c s) bound
  left_there = subst (λ j. IsLeftFor problem node.costs j bound) ea left

  -- what was found
  found_there : (found given : Option (List ℕ)) → IsLeastWithin problem bound a more found → found ≡ given → IsLeastWithin problem bound (agent_on c s) more given
  found_there found given least e = subst (λ f. IsLeastWithin problem bound (agent_on c s) more f) e (subst (λ j. IsLeastWithin problem bound j more found) ea least)

  -- what it pays is no less than at the node, since it is forbidden more
  pub pays_no_less : (k : ℕ) → k ≡ get_or node.costs (agent_on c s) 0 → (path : List ℕ) → IsAllowedFor (record problem { bound = bound }) a more path → k ≤ cost path
  pays_no_less k e path allowed = let w = is.costs.each (agent_on c s) (agent_inside problem node c s is choice) in omega (arith, e, w.2, w.1.least path old)
    where
      small : bound ≤ problem.bound
      small = omega (arith, left_there, get_or-le-sum_by (λ k. k) node.costs (agent_on c s) 0 (in_costs problem node c s is choice))

      old : IsAllowedFor problem (agent_on c s) (get_or node.sets (agent_on c s) []) path
      old = record {
        path = subst (λ j. IsPath problem.inst.grid (get_or problem.inst.starts j 0) (get_or problem.inst.goals j 0) path) ea allowed.path;
        within = omega (arith, allowed.within, small);
        obeys = AllByRecursion-fewer (λ x. ¬ Breaks path x) more (get_or node.sets (agent_on c s) []) (λ x h. (after x).1 (inr h)) allowed.obeys;
      }

  -- no path: the side has no candidate, however its set is listed
  pub side_without : (found : Option (List ℕ)) → IsLeastWithin problem bound a more found → found ≡ None → IsSideOf problem node c s None
  side_without found least e sets are other candidate =
      no_candidate problem node c s is choice sets are bound left_there
      (none_again problem bound (agent_on c s) more are.0 (λ x. ((λ h. (are.2 x).1 ((after x).0 h)), (λ h. (after x).1 ((are.2 x).0 h)))) (found_there found None least e)) other candidate

  -- a path: the side is a node
  pub child_is : (found : Option (List ℕ)) → IsLeastWithin problem bound a more found → (path : List ℕ) (child : FreeNode) → found ≡ Some path → child.sets ≡ set node.sets a more → child.costs ≡ set node.costs a (cost path) → child.plan ≡ set node.plan a path → AreOf node.groups child.groups →
      child.label ≡ max node.label (sum_by (λ k. k) child.costs) → child.is_bounded ≡ false → IsFreeNode problem child
  unfolding made
  child_is found least path child e sets costs plan groups label fresh =
      is_free problem node c s is choice (set node.sets (agent_on c s) more) made bound path left_there (found_there found (Some path) least e) child (sets ∙ ap (λ j. set node.sets j more) ea) (costs ∙ ap (λ j. set node.costs j (cost path)) ea) (plan ∙ ap (λ j. set node.plan j path) ea) groups label
      fresh

  pub side_with : (child raised : FreeNode) → child.sets ≡ set node.sets a more → IsSame problem child raised → IsSideOf problem node c s (Some raised)
  unfolding made
  side_with child raised sets same = (same.0, subst (AreSideSets node.sets c s) (sym (same.1 ∙ sets ∙ ap (λ j. set node.sets j more) ea)) made)
