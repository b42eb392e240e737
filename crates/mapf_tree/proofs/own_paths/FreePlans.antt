-- Plans of own paths under sets of constraints, by number.
use Rattle.mapf_tree.proofs.Prelude.{◌≡◌, ℕ, ◌+◌, ◌<◌, ◌≤◌, List, [], ◌∷◌, length, get_or, set, subst, subst₂, sym, ap, ◌∙◌, arith, length-map, length-set, map-set, get_or-map, get_or-set_same, get_or-set_other, get_or_from_slice_get, sum_by-set, set_cases, own_set}
use Rattle.mapf_tree.specs.Prelude.{slice_index, cost, path_of, plan_cost, plan_of, Conflict, Constraint, IsKnownPlan, IsSameSet, Node, StandsFor, Problem, IsOwnPathOf, HasOneMore, HasPlan, HasSide, IsAt, IsExtended, IsFreePlan, IsFreeUnder, IsPlanOf, AreSetsOf, PathCache, PlannedNode, Side, TreeNode, agent_on, constraint_on, constraints_of, paths_of, side_of}
use Rattle.mapf_tree.specs.declared.own_paths.path_cache.node_numbers.NodeNumbers.{NodeNumbers}
use Rattle.mapf_tree.specs.declared.own_paths.path_cache.free_plans.FreePlan.{FreePlan}
use Rattle.mapf_tree.specs.declared.own_paths.path_cache.free_sides.FreeSide.{FreeSide}
use Rattle.mapf_tree.proofs.ConstraintSets.{IsWith-cons}
use Rattle.mapf_tree.proofs.Plans.{OwnAt}
use Rattle.mapf_tree.proofs.finite.Measure.{grown_all}
use Rattle.mapf_tree.proofs.own_paths.PathCaches.{extension_tells, same_set, sets_turned_on}

-- the agents' sets at a node are those of the node of the tree that it stands for
pub sets_of_stood : (problem : Problem) (cache : PathCache) (node : Node) (numbers : List ℕ) (m : PlannedNode) → AreSetsOf cache.sets numbers node.constraints → StandsFor problem node m → AreSetsOf cache.sets numbers m.0.constraints
sets_of_stood problem cache node numbers m are stands = record {
  each = are.each ∙ stands.agents ∙ sym agents;
  same = λ i l.
      let inside : i < length problem.inst.starts = subst (λ n. i < n) agents l in
      let own = are.same i (subst (λ n. i < n) (sym stands.agents) inside) in
      (own.0, own.1, λ x. let one = own.2 x in let two = stands.sets i inside x in ((λ h. two.0 (one.0 h)), (λ h. one.1 (two.1 h))));
}
  where
    agents : length m.0.constraints ≡ length problem.inst.starts
    agents = (grown_all problem m.0 stands.member.inside).agents

-- the numbers at a node are a free plan's under the constraints of the node of the tree that it stands for
pub at_node : (cache : PathCache) (node : Node) (at : NodeNumbers) (free : FreePlan) (m : PlannedNode) → IsAt cache node at → free.sets.items ≡ at.sets.items → free.plan.numbers.items ≡ at.plan.numbers.items →
    free.plan.conflicts.items ≡ at.plan.conflicts.items → free.cost ≡ plan_cost node.plan → StandsFor cache.problem node m → IsFreeUnder cache m.0 free
at_node cache node at free m is sets numbers conflicts costs stands = record {
  agents = (grown_all cache.problem m.0 stands.member.inside).agents;
  sets = subst (λ ns. AreSetsOf cache.sets ns m.0.constraints) (sym sets) (sets_of_stood cache.problem cache node at.sets.items m is.sets stands);
  plan = subst₂ (λ ns ms. IsKnownPlan (record { rule = cache.problem.rule; paths = cache.paths }) ns ms) (sym numbers) (sym conflicts) is.plan;
  own = subst (HasPlan cache.problem m.0) (sym (same ∙ stands.plan)) stands.member.plan;
  cost = costs ∙ ap plan_cost (sym same);
}
  where
    same : paths_of cache free ≡ node.plan
    same = ap (λ ns. plan_of cache.paths ns) numbers ∙ is.same

-- a free plan has each agent's set and path
pub in_free : (cache : PathCache) (free : FreePlan) → IsFreePlan cache free → length free.sets.items ≡ length free.plan.numbers.items
in_free cache free is =
    let under = is.1 in
    omega (arith, under.sets.each, under.agents, under.own.agents, length-map free.plan.numbers.items (λ n. path_of cache.paths n))

-- with the own path of a side's agent under its set there, a node's plan is the side's, where it costs at most the bound
pub plan_on_side : (problem : Problem) (node : TreeNode) (plan : List (List ℕ)) (c : Conflict) (side : Side) (before after : List Constraint) (path : List ℕ) → length node.constraints ≡ length problem.inst.starts →
    HasPlan problem node plan → agent_on c side < length problem.inst.starts → IsSameSet before (constraints_of node (agent_on c side)) → HasOneMore (constraint_on c side) before after → IsOwnPathOf problem (agent_on c side) after path →
    plan_cost (set plan (agent_on c side) path) ≤ problem.bound → HasPlan problem (side_of node c side) (set plan (agent_on c side) path)
plan_on_side problem node plan c side before after path agents has inside same more own within = record {
  agents = length-set plan a path ∙ has.agents;
  own = λ i l.
      set_cases (OwnAt problem (side_of node c side) i) plan a i path [] (subst (λ n. i < n) (sym has.agents) l)
      (λ e. subst (λ j. OwnAt problem (side_of node c side) j path) e here)
      (λ ne. subst (λ cs. IsOwnPathOf problem i cs (path_of plan i)) (sym (get_or-set_other node.constraints a i _ [] (λ e. ne (sym e)))) (has.own i l));
  within = within;
}
  where
    a : ℕ
    a = agent_on c side

    -- what the agent is forbidden there
    there : List Constraint
    there = constraint_on c side ∷ constraints_of node (agent_on c side)

    here : OwnAt problem (side_of node c side) (agent_on c side) path
    here =
        subst (λ cs. IsOwnPathOf problem a cs path) (sym (get_or-set_same node.constraints a there [] (subst (λ n. a < n) (sym agents) inside)))
        (own_set _ _ _ _ after there path (IsWith-cons (constraint_on c side) (constraints_of node a) before after same more) own)

-- on a side the plan with the agent's set and path of the side is one under the side's constraints
pub on_side : (cache : PathCache) (node : TreeNode) (free next : FreePlan) (c : Conflict) (side : Side) (found : FreeSide) → HasSide cache free c side found → IsFreeUnder cache node free → found.agent < length free.sets.items →
    next.sets.items ≡ set free.sets.items found.agent found.set → next.plan.numbers.items ≡ set free.plan.numbers.items found.agent found.path → IsPlanOf cache next.plan → next.cost ≡ found.cost → IsFreeUnder cache (side_of node c side) next
on_side cache node free next c side found has under inside sets numbers plan costs = record {
  agents = length-set node.constraints (agent_on c side) _ ∙ under.agents;
  sets = subst₂ (λ ns a. AreSetsOf cache.sets ns (set node.constraints a (constraint_on c side ∷ get_or node.constraints a []))) (sym sets) has.agent
      (sets_turned_on cache.sets free.sets.items node.constraints found.agent found.set (constraint_on c side) inside under.sets extended);
  plan = plan;
  own = subst (HasPlan cache.problem (side_of node c side)) (sym next_paths)
      (plan_on_side cache.problem node paths c side has.before has.after has.path under.agents under.own (subst (λ a. a < length cache.problem.inst.starts) has.agent agent_inside) before has.more
      (subst (λ a. IsOwnPathOf cache.problem a has.after has.path) has.agent has.own) (omega (arith, total, has.within, ap (λ a. plan_cost (set paths a has.path)) has.agent)));
  cost = omega (arith, costs, total, ap plan_cost next_paths, ap (λ a. plan_cost (set paths a has.path)) has.agent);
}
  where
    paths : List (List ℕ)
    paths = paths_of cache free

    in_numbers : found.agent < length free.plan.numbers.items
    in_numbers = omega (arith, inside, in_free cache free (node, under))

    agent_inside : found.agent < length cache.problem.inst.starts
    agent_inside = omega (arith, inside, under.sets.each, under.agents)

    extended : IsExtended cache.sets (slice_index free.sets.items found.agent) (constraint_on c side) found.set
    extended = extension_tells cache.sets (slice_index free.sets.items found.agent) (constraint_on c side) found.set (found.agent, has.before, has.after, has.is_before, has.is_after, has.more)

    next_paths : paths_of cache next ≡ set (paths_of cache free) (agent_on c side) has.path
    next_paths =
        ap (λ ns. plan_of cache.paths ns) numbers
        ∙ map-set (λ n. path_of cache.paths n) free.plan.numbers.items found.agent found.path
        ∙ ap (λ p. set (paths_of cache free) found.agent p) (get_or_from_slice_get cache.paths found.path has.path [] has.is_path)
        ∙ ap (λ a. set (paths_of cache free) a has.path) has.agent

    was : path_of (paths_of cache free) found.agent ≡ has.was
    was = get_or-map (λ n. path_of cache.paths n) free.plan.numbers.items found.agent 0 [] in_numbers
        ∙ get_or_from_slice_get cache.paths (slice_index free.plan.numbers.items found.agent) has.was [] has.is_was

    total : plan_cost (set (paths_of cache free) found.agent has.path) ≡ found.cost
    total =
        let changed : plan_cost (set (paths_of cache free) found.agent has.path) + cost (path_of (paths_of cache free) found.agent) ≡ plan_cost (paths_of cache free) + cost has.path =
        sum_by-set cost (paths_of cache free) found.agent has.path [] (omega (arith, in_numbers, length-map free.plan.numbers.items (λ n. path_of cache.paths n))) in
        omega (arith, changed, ap cost was, has.cost, under.cost)

    before : IsSameSet has.before (constraints_of node (agent_on c side))
    before =
        let own = under.sets.same found.agent (subst (λ n. found.agent < n) under.sets.each inside) in
        let one = same_set cache.sets (slice_index free.sets.items found.agent) found.agent has.before own.1.0 own.1.1 has.is_before in
        subst₂ (λ cs a. IsSameSet cs (constraints_of node a)) (sym own.1.3 ∙ one.1) has.agent own.2
