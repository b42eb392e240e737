-- The sides of a conflict of a free plan.
use Rattle.mapf_tree.proofs.Prelude.{◌≡◌, ℕ, ◌<◌, ◌≤◌, List, [], length, get_or, Some, None, Contains, inr, subst, sym, ◌∙◌, arith, get_or-map, get_or_from_slice_get, first_le, AllByRecursion-fewer}
use Rattle.mapf_tree.specs.Prelude.{slice_get, slice_index, cost, path_of, plan_of, Breaks, Conflict, Rule, IsConflict, Constraint, ConstraintSet, Side, Left, Right, SideQuery, IsAsked, HasTwoEnds, IsAllowedFor, MOST_BOUND, agent_on, constraint_on, constraints_of, PathCache, HasSet, HasOneMore, IsSameSet, IsExtension, IsFreePlan, Grows, paths_of}
use Rattle.mapf_plan.specs.declared.conflict.Conflict.TheVariants.{Vertex, Swapping, Following}
use Rattle.mapf_tree.specs.declared.own_paths.path_cache.free_plans.FreePlan.{FreePlan}
use Rattle.mapf_tree.proofs.sides.Branch.{agent_below}
use Rattle.mapf_tree.proofs.own_paths.PathCaches.{same_set}

-- the path of an agent of the plan of these numbers
pub path_of_number : (paths : List (List ℕ)) (numbers : List ℕ) (agent : ℕ) (path : List ℕ) → agent < length numbers → slice_get paths (get_or numbers agent 0) ≡ Some path → path_of (plan_of paths numbers) agent ≡ path
path_of_number paths numbers agent path inside at =
    get_or-map (λ n. path_of paths n) numbers agent 0 [] inside ∙ get_or_from_slice_get paths (get_or numbers agent 0) path [] at

-- what a side forbids has two ends, as a swap is between two cells
pub ends_on_side : (rule : Rule) (plan : List (List ℕ)) (c : Conflict) (s : Side) → IsConflict rule plan c → HasTwoEnds (constraint_on c s)
ends_on_side rule plan (Vertex t i j v) s h = tt
ends_on_side rule plan (Swapping t i j u v) Left h = h.3
ends_on_side rule plan (Swapping t i j u v) Right h = λ e. h.3 (sym e)
ends_on_side rule plan (Following t i j v) s h = tt

-- a side's agent is one of the problem's
pub free_agent_inside : (cache : PathCache) (free : FreePlan) (c : Conflict) (side : Side) → IsFreePlan cache free → IsConflict cache.problem.rule (paths_of cache free) c → agent_on c side < length cache.problem.inst.starts
free_agent_inside cache free c side is meets = subst (λ n. agent_on c side < n) is.1.own.agents (agent_below cache.problem.rule (paths_of cache free) c side meets)

-- so it has a set
pub free_set_inside : (cache : PathCache) (free : FreePlan) (c : Conflict) (side : Side) → IsFreePlan cache free → IsConflict cache.problem.rule (paths_of cache free) c → agent_on c side < length free.sets.items
free_set_inside cache free c side is meets = omega (arith, free_agent_inside cache free c side is meets, is.1.agents, is.1.sets.each)

-- the set of an agent of a free plan
pub free_set : (cache : PathCache) (free : FreePlan) (agent : ℕ) → (is : IsFreePlan cache free) → agent < length cache.problem.inst.starts →
    (cs : List Constraint) × HasSet cache.sets (slice_index free.sets.items agent) agent cs × IsSameSet cs (constraints_of is.0 agent)
free_set cache free agent is inside = is.1.sets.same agent (subst (λ n. agent < n) (sym is.1.agents) inside)

-- what a number's set is forbidden
pub constraints_at : (sets : List ConstraintSet) (number read agent : ℕ) (s : ConstraintSet) (cs : List Constraint) → slice_get sets read ≡ Some s → read ≡ number → HasSet sets number agent cs → s.constraints ≡ cs
constraints_at sets number read agent s cs at is has = (same_set sets number agent cs s (subst (λ n. slice_get sets n ≡ Some s) is at) has).1

-- with one constraint more the agent's path costs no less
pub free_costs_no_less : (cache : PathCache) (free : FreePlan) (agent bound : ℕ) (k : Constraint) (cs more : List Constraint) → IsFreePlan cache free → agent < length cache.problem.inst.starts → bound ≤ cache.problem.bound →
    HasSet cache.sets (slice_index free.sets.items agent) agent cs → HasOneMore k cs more → (path : List ℕ) → IsAllowedFor (record cache.problem { bound = bound }) agent more path → cost (path_of (paths_of cache free) agent) ≤ cost path
free_costs_no_less cache free agent bound k cs more is inside small has after path allowed =
    let set = free_set cache free agent is inside in
    let one : set.0 ≡ cs = sym set.1.3 ∙ (same_set cache.sets (slice_index free.sets.items agent) agent cs set.1.0 set.1.1 has).1 in
    let obeys =
    AllByRecursion-fewer (λ c. ¬ Breaks path c) more (constraints_of is.0 agent) (λ c h. (after c).1 (inr (subst (λ ds. Contains ds c) one ((set.2 c).1 h)))) allowed.obeys in
    first_le _ _ _ _ ((is.1.own.own agent inside).least path (record { path = allowed.path; within = omega (arith, allowed.within, small); obeys = obeys }))

-- so the query of a side is one that can be asked
pub free_asked : (cache : PathCache) (free : FreePlan) (c : Conflict) (side : Side) (agent bound least : ℕ) (k : Constraint) (cs more : List Constraint) → IsFreePlan cache free → IsConflict cache.problem.rule (paths_of cache free) c →
    bound ≤ cache.problem.bound → cache.problem.bound ≤ MOST_BOUND → agent ≡ agent_on c side → k ≡ constraint_on c side → HasSet cache.sets (slice_index free.sets.items agent) agent cs → HasOneMore k cs more → least ≡ cost (path_of (paths_of cache free) agent) →
    IsAsked (record { problem = cache.problem; side = side; agent = agent; constraint = k; constraints = more; bound = bound }) least None
free_asked cache free c side agent bound least k cs more is meets small most on forbids has after costs =
    let inside : agent < length cache.problem.inst.starts = subst (λ i. i < length cache.problem.inst.starts) (sym on) (free_agent_inside cache free c side is meets) in record {
      inside = inside;
      bound = most;
      small = omega (arith, small, most);
      ends = subst HasTwoEnds (sym forbids) (ends_on_side cache.problem.rule (paths_of cache free) c side meets);
      from_start = tt;
      costs = λ path allowed. subst (λ n. n ≤ cost path) (sym costs) (free_costs_no_less cache free agent bound k cs more is inside small has after path allowed);
    }

-- with the query's set the side's agent has its constraint more
pub free_extension : (old new : PathCache) (free : FreePlan) (c : Conflict) (side : Side) (q : SideQuery) (after : ℕ) → IsFreePlan old free → IsConflict old.problem.rule (paths_of old free) c → Grows old new → q.agent ≡ agent_on c side →
    ((cs : List Constraint) → HasSet old.sets (slice_index free.sets.items q.agent) q.agent cs → HasOneMore (constraint_on c side) cs q.constraints) → HasSet new.sets after q.agent q.constraints →
    IsExtension new.sets (slice_index free.sets.items (agent_on c side)) (constraint_on c side) after
free_extension old new free c side q after is meets grows on more has =
    let agent = agent_on c side in
    let set = free_set old free agent is (free_agent_inside old free c side is meets) in
    let all = subst (λ a. (cs : List Constraint) → HasSet old.sets (slice_index free.sets.items a) a cs → HasOneMore (constraint_on c side) cs q.constraints) on more in
    (agent, set.0, q.constraints, grows.sets (slice_index free.sets.items agent) agent set.0 set.1, subst (λ a. HasSet new.sets after a q.constraints) on has, all set.0 set.1)
