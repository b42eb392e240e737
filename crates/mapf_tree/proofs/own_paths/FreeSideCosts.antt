-- What a side of a conflict leaves: where its agent has no own path within what the others leave, no valid plan that costs so little
-- obeys it.
use Rattle.mapf_tree.proofs.Prelude.{◌≡◌, ◌≢◌, ℕ, ◌+◌, ◌<◌, ◌≤◌, List, [], ◌∷◌, length, set, Some, None, subst, subst₂, sym, ap, ◌∙◌, arith, get_or-le-sum_by, get_or-set_same, get_or-set_other, sum_by-set, own_path_costs, set_cases, none_set, length-map, get_or-map, slice_get-get_or, get_or_from_slice_get}
use Rattle.std.proofs.lemmas.List.{length-set}
use Rattle.std.proofs.lemmas.Option.{slice_get_within}
use Rattle.std.proofs.lemmas.List.Elements.{All-get_or}
use Rattle.mapf_low.proofs.HigherBounds.{own_by_bound}
use Rattle.mapf_tree.proofs.sides.Branch.{agent_below}
use Rattle.mapf_tree.proofs.own_paths.FreeSearches.{free_kept, plan_kept}
use Rattle.mapf_tree.specs.declared.own_paths.path_cache.free_plans.FreePlan.{FreePlan}
use Rattle.mapf_tree.specs.declared.own_paths.path_cache.free_sides.FreeSide.{FreeSide}
use Rattle.mapf_grid.proofs.Lists.{sum_by-le}
use Rattle.mapf_tree.specs.Prelude.{cost, Conflict, IsValid, Obeys, path_of, plan_cost, Constraint, Side, Problem, IsOwnWithin, IsSameSet, TreeNode, HasPlan, side_of, agent_on, constraint_on, constraints_of, ObeysNode, NoneObeys, IsConflict, IsOwnPathOf, IsExtended, IsOwnIn, HasSet, HasOneMore, Grows, HasSide, IsFreePlan, IsFreeUnder, PathCache, paths_of, slice_get, slice_index}
use Rattle.mapf_tree.proofs.ConstraintSets.{IsWith, IsWith-cons}

module _ (p : Problem) (node : TreeNode) (plan : List (List ℕ)) (has : HasPlan p node plan) (agents : length node.constraints ≡ length p.inst.starts) (c : Conflict) (s : Side) (inside : agent_on c s < length p.inst.starts) where
  -- the side's agent, and the node on this side
  abbrev a : ℕ
  a = agent_on c s

  abbrev there : TreeNode
  there = side_of node c s

  -- on this side the agent has one constraint more
  sets_there : constraints_of there a ≡ constraint_on c s ∷ constraints_of node a
  sets_there = get_or-set_same node.constraints a (constraint_on c s ∷ constraints_of node a) [] (subst (λ n. a < n) (sym agents) inside)

  -- a set with that constraint more has the same constraints
  pub same_there : (before more : List Constraint) → IsSameSet before (constraints_of node a) → IsWith (constraint_on c s) before more → IsSameSet more (constraints_of there a)
  same_there before more same after = subst (IsSameSet more) (sym sets_there) (IsWith-cons (constraint_on c s) (constraints_of node a) before more same after)

  module _ (most : ℕ) (within : most ≤ p.bound) (other : List (List ℕ)) (valid : IsValid p.rule p.inst other) (obeys : ObeysNode p there other) (costs : plan_cost other ≤ most) where
    -- what such a plan's paths cost
    path_costs : (i : ℕ) → i < length p.inst.starts → cost (path_of other i) ≤ p.bound
    path_costs i h = omega (arith, get_or-le-sum_by cost other i [] (subst (λ k. i < k) (sym valid.agents) h), costs, within)

    -- each other agent's path costs at least its own one at the node
    no_cheaper : (i : ℕ) → i < length p.inst.starts → i ≢ a → cost (path_of plan i) ≤ cost (path_of other i)
    no_cheaper i h ne =
        own_path_costs _ _ _ _ _ _ _ (has.own i h)
        (record { path = valid.paths i h; within = path_costs i h; obeys = subst (λ cs. Obeys cs (path_of other i)) (get_or-set_other node.constraints a i _ [] ne) (obeys i h) })

    -- with the agent's path in it the node's plan costs no more
    changed_costs : plan_cost (set plan a (path_of other a)) ≤ plan_cost other
    changed_costs =
        sum_by-le cost [] (set plan a (path_of other a)) other (length-set plan a (path_of other a) ∙ has.agents ∙ sym valid.agents)
        (λ i h. let k : i < length p.inst.starts = subst (λ n. i < n) (length-set plan a (path_of other a) ∙ has.agents) h in
        set_cases (λ q. cost q ≤ cost (path_of other i)) plan a i (path_of other a) [] (subst (λ n. i < n) (sym has.agents) k)
        (λ e. omega (arith, ap (λ j. cost (path_of other j)) e)) (λ ne. no_cheaper i k (λ e. ne (sym e))))

  -- where the agent has no own path within what the others leave, no valid plan is on this side
  pub none_there : (most bound : ℕ) (before more : List Constraint) → most ≤ p.bound → bound + plan_cost plan ≡ most + cost (path_of plan a) → IsSameSet before (constraints_of node a) → IsWith (constraint_on c s) before more →
      IsOwnWithin p bound a more None → NoneObeys p there most
  none_there most bound before more small leaves same after none other valid obeys costs =
      none_set _ _ _ _ more (constraints_of there a) (same_there before more same after) none (path_of other a)
      (record {
        path = valid.paths a inside;
        within = omega (arith, leaves, changed_costs most small other valid obeys costs, sum_by-set cost plan a (path_of other a) [] (subst (λ n. a < n) (sym has.agents) inside), costs);
        obeys = obeys a inside;
      })

-- the paths of a free plan stay the same in a cache that grows, and it stays one
pub plan_is_kept : (old new : PathCache) (free : FreePlan) → Grows old new → IsFreePlan old free → paths_of new free ≡ paths_of old free
plan_is_kept old new free grows is = plan_kept old.paths new.paths free.plan.numbers.items grows.paths is.1.plan.inside

pub stays_free : (old new : PathCache) (free : FreePlan) → Grows old new → IsFreePlan old free → IsFreePlan new free
stays_free old new free grows is = (is.0, free_kept old new is.0 free grows is.1)

-- the agent of a side is one of the plan's, whose path is a part of what all cost
pub part_of_all : (cache : PathCache) (free : FreePlan) (c : Conflict) (s : Side) (old : ℕ) → IsFreePlan cache free → IsConflict cache.problem.rule (paths_of cache free) c → old ≡ cost (path_of (paths_of cache free) (agent_on c s)) → old ≤ free.cost
part_of_all cache free c s old is conflict was =
    omega (arith, was, is.1.cost, get_or-le-sum_by cost (paths_of cache free) (agent_on c s) [] (agent_below cache.problem.rule (paths_of cache free) c s conflict))

-- a side has a path that is known
pub path_known : (cache : PathCache) (free : FreePlan) (c : Conflict) (s : Side) (found : FreeSide) → HasSide cache free c s found → found.path < length cache.paths
path_known cache free c s found has = slice_get_within cache.paths found.path has.path has.is_path

module _ (cache : PathCache) (free : FreePlan) (c : Conflict) (s : Side) (most bound set old : ℕ) (small : most ≤ cache.problem.bound) (leaves : bound + free.cost ≡ most + old)
    (was : old ≡ cost (path_of (paths_of cache free) (agent_on c s))) (conflict : IsConflict cache.problem.rule (paths_of cache free) c)
    (extended : IsExtended cache.sets (slice_index free.sets.items (agent_on c s)) (constraint_on c s) set) where
  -- without an own path for its agent no valid plan is on the side
  pub free_none : IsOwnIn cache set bound None → (node : TreeNode) → IsFreeUnder cache node free → NoneObeys cache.problem (side_of node c s) most
  free_none own node under =
      let at = under.sets.same (agent_on c s) (subst (λ n. agent_on c s < n) (sym under.agents) inside) in
      let more = extended (agent_on c s) at.0 at.1 in
      none_there cache.problem node (paths_of cache free) under.own under.agents c s inside most bound at.0 more.0 small (omega (arith, leaves, under.cost, was)) at.2 more.2
      (own (agent_on c s) more.0 more.1)
    where
      inside : agent_on c s < length cache.problem.inst.starts
      inside = subst (λ n. agent_on c s < n) under.own.agents (agent_below cache.problem.rule (paths_of cache free) c s conflict)

  -- with one the agent has it there
  pub free_some : (number : ℕ) (path : List ℕ) → IsFreePlan cache free → slice_get cache.paths number ≡ Some path → IsOwnIn cache set bound (Some number) →
      (found : FreeSide) → found.agent ≡ agent_on c s → found.set ≡ set → found.path ≡ number → found.cost + old ≡ free.cost + cost path → HasSide cache free c s found × (found.cost ≤ most)
  free_some number path is has own found on sets paths costs = (
    record {
      agent = on;
      before = at.0;
      is_before = subst (λ a. HasSet cache.sets (slice_index free.sets.items a) a at.0) (sym on) at.1;
      after = more.0;
      is_after = subst₂ (λ n a. HasSet cache.sets n a more.0) (sym sets) (sym on) more.1;
      more = more.2;
      path = path;
      is_path = subst (λ n. slice_get cache.paths n ≡ Some path) (sym paths) has;
      own = subst (λ a. IsOwnPathOf cache.problem a more.0 path) (sym on) (own_by_bound _ _ bound cache.problem.bound _ _ path below within);
      was = path_of (paths_of cache free) (agent_on c s);
      is_was = subst (λ a. slice_get cache.paths (slice_index free.plan.numbers.items a) ≡ Some (path_of (paths_of cache free) (agent_on c s))) (sym on) at_number;
      cost = omega (arith, costs, was);
      within = omega (arith, costs, leaves, within.member.within, small);
    },
    omega (arith, costs, leaves, within.member.within),
  )
    where
      under : IsFreeUnder cache is.0 free
      under = is.1

      in_plan : agent_on c s < length (paths_of cache free)
      in_plan = agent_below cache.problem.rule (paths_of cache free) c s conflict

      inside : agent_on c s < length cache.problem.inst.starts
      inside = subst (λ n. agent_on c s < n) under.own.agents in_plan

      at : (cs : List Constraint) × HasSet cache.sets (slice_index free.sets.items (agent_on c s)) (agent_on c s) cs × IsSameSet cs (constraints_of is.0 (agent_on c s))
      at = under.sets.same (agent_on c s) (subst (λ n. agent_on c s < n) (sym under.agents) inside)

      more : (all : List Constraint) × HasSet cache.sets set (agent_on c s) all × HasOneMore (constraint_on c s) at.0 all
      more = extended (agent_on c s) at.0 at.1

      within : IsOwnWithin cache.problem bound (agent_on c s) more.0 (Some path)
      within = subst (λ q. IsOwnWithin cache.problem bound (agent_on c s) more.0 (Some q)) (get_or_from_slice_get cache.paths number path [] has) (own (agent_on c s) more.0 more.1)

      below : bound ≤ cache.problem.bound
      below = omega (arith, leaves, was, under.cost, small, get_or-le-sum_by cost (paths_of cache free) (agent_on c s) [] in_plan)

      in_numbers : agent_on c s < length free.plan.numbers.items
      in_numbers = subst (λ n. agent_on c s < n) (length-map free.plan.numbers.items (λ n. path_of cache.paths n)) in_plan

      at_number : slice_get cache.paths (slice_index free.plan.numbers.items (agent_on c s)) ≡ Some (path_of (paths_of cache free) (agent_on c s))
      at_number =
          slice_get-get_or cache.paths (slice_index free.plan.numbers.items (agent_on c s)) [] (All-get_or (λ n. n < length cache.paths) free.plan.numbers.items (agent_on c s) 0 in_numbers under.plan.inside)
          ∙ ap Some (sym (get_or-map (λ n. path_of cache.paths n) free.plan.numbers.items (agent_on c s) 0 [] in_numbers))
